use Rattle.std.proofs.Common.{rules}
use Rattle.pmg_script.proofs.ReplayLemmas.{going_start}
use Rattle.pmg_script.proofs.playing.play_script.Goals as goal

pub loop-init : goal.loop-init
loop-init g c = record {
  within = search rules;
  gone = search rules;
  failed = λ (old : _). old;
  reads = search rules;
  going = going_start g.P.Player.plays g.P.Player.stops g.P.Player.over c.args.player.now (g.R.Read.remaining c.args.reader.now.reader) (g.W.Write.contents c.args.writer.now.writer) c.requires;
}
