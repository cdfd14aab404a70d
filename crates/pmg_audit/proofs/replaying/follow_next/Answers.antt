use Rattle.std.proofs.Common.{[], ◌∷◌, ◌++◌, map, ap, ◌∙◌}
use Rattle.std.proofs.lemmas.List.{map-append}
use Rattle.pmg_journal.specs.Journals.{happening_of}
use Rattle.pmg_audit.specs.Codes.{audited_put, lane_of, move_in}
use Rattle.pmg_audit.specs.declared.moves.Lane.{Lane}
use Rattle.pmg_audit.specs.declared.moves.Move.{Move as KeptMove}
use Rattle.pmg_audit.proofs.ReplaySteps.{follows_by}
use Rattle.pmg_audit.proofs.replaying.follow_next.Goals as goal

pub returns-in_ok-push_back-in-Some-clause-ok : goal.returns-in_ok-push_back-in-Some-clause-ok
returns-in_ok-push_back-in-Some-clause-ok c =
    let lane : Lane = c.args.lane.now in
    let e = happening_of c.args.event in
    let puts = map audited_put c.in-Some.puts.items in
    let m : KeptMove = record { puts = c.in-Some.puts; event = c.args.event; frames = c.into_sent-frames.result } in
    let is = ap (map move_in) c.in_ok-push_back-in-Some.ensures.items ∙ map-append move_in lane.moves.items (m ∷ [])
    ∙ ap (λ q. lane_of lane ++ record { puts = puts; act = e.act; reply = e.reply; frames = q.items } ∷ []) c.into_sent-frames.ensures in
    follows_by c.args.registry.now c.args.node lane c.args.sayings.now e c.args.step puts (record { moves = c.push_back.new.self }) c.puts_before.new.sayings c.in-Some.ensures.some is
