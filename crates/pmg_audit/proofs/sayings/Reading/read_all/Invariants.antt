use Rattle.std.proofs.Common.{◌≡◌, ◌++◌, map, drop}
use Rattle.pmg_journal.specs.Transcripts.{noted_of}
use Rattle.pmg_audit.specs.Codes.{audited_put, audited_due}
use Rattle.pmg_audit.specs.Dues.{dues, puts_after, takes_all}
use Rattle.pmg_audit.proofs.sayings.Reading.read_all.Given as goal

abbrev pub invariant-loop-called : goal.invariant-loop-called
invariant-loop-called l = record {
  said : map audited_due l.self.dues.items ++ dues l.proc l.self.cache (map audited_put l.self.puts.items) (map noted_of (drop l.called-index l.calls))
      ≡ map audited_due l.fn.self.dues.items ++ dues l.proc l.fn.self.cache (map audited_put l.fn.self.puts.items) (map noted_of l.calls);
  left : puts_after l.proc l.self.cache (map audited_put l.self.puts.items) (map noted_of (drop l.called-index l.calls)) ≡ puts_after l.proc l.fn.self.cache (map audited_put l.fn.self.puts.items) (map noted_of l.calls);
  taken : takes_all l.self.cache (map noted_of (drop l.called-index l.calls)) ≡ takes_all l.fn.self.cache (map noted_of l.calls);
}
