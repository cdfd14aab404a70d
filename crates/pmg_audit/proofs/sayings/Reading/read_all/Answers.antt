use Rattle.std.proofs.Common.{◌++◌, ◌+◌, List, map, drop, sym, ap, ◌∙◌, rules}
use Rattle.pmg_journal.specs.Transcripts.{Noted, noted_of}
use Rattle.pmg_audit.specs.Codes.{audited_put, audited_due}
use Rattle.pmg_audit.specs.Dues.{dues, puts_after, takes_all}
use Rattle.pmg_audit.proofs.DueLemmas.{calls_left, dues_end, dues_next, left_end, left_next, no_calls_left, taken_end, taken_next, taken_stops}
use Rattle.pmg_audit.proofs.sayings.Reading.read_all.Goals as goal

pub returns-then-not-branch-clause-taken : goal.returns-then-not-branch-clause-taken
returns-then-not-branch-clause-taken c =
    let calls = c.args.calls.now in
    let i = c.loop-called.called-index in
    let x = c.called-item.result in
    let left = calls_left calls i x (search rules) c.called-item.is in
    let cache = c.loop-called.self.cache in
    sym (taken_stops cache (noted_of x) (map noted_of (drop (i + 1) calls)) (sym c.in_ok-read.ensures.takes ∙ c.if-not-branch.true)) ∙ ap (takes_all cache) (sym left) ∙ c.loop-called.invariant.taken

pub loop-called-preserved : goal.loop-called-preserved
loop-called-preserved c =
    let calls = c.args.calls.now in
    let i = c.loop-called.called-index in
    let x = c.called-item.result in
    let left = calls_left calls i x (search rules) c.called-item.is in
    let old = c.loop-called.self in
    let new = c.read.new.self in
    let ns = map noted_of (drop (i + 1) calls) in
    let reads = c.in_ok-read.ensures.reads c.if-not-branch.false in
    record {
      said = dues_next c.args.proc.now old.cache (map audited_put old.puts.items) (noted_of x) ns (map audited_due old.dues.items) (map audited_due new.dues.items) new.cache (map audited_put new.puts.items)
          reads.dues reads.cache reads.puts
          ∙ ap (λ (l : List Noted). map audited_due old.dues.items ++ dues c.args.proc.now old.cache (map audited_put old.puts.items) l) (sym left) ∙ c.loop-called.invariant.said;
      left = left_next c.args.proc.now old.cache (map audited_put old.puts.items) (noted_of x) ns new.cache (map audited_put new.puts.items) reads.cache reads.puts
          ∙ ap (puts_after c.args.proc.now old.cache (map audited_put old.puts.items)) (sym left) ∙ c.loop-called.invariant.left;
      taken = taken_next old.cache new.cache (noted_of x) ns (sym c.in_ok-read.ensures.takes ∙ c.if-not-branch.false) reads.cache ∙ ap (takes_all old.cache) (sym left) ∙ c.loop-called.invariant.taken;
    }

pub returns-clause-taken : goal.returns-clause-taken
returns-clause-taken c =
    let none = no_calls_left c.args.calls.now c.loop-called.called-index (search rules) in
    sym (taken_end c.loop-called.self.cache) ∙ ap (takes_all c.loop-called.self.cache) (sym none) ∙ c.loop-called.invariant.taken

pub returns-clause-said : goal.returns-clause-said
returns-clause-said c = λ _.
    let none = no_calls_left c.args.calls.now c.loop-called.called-index (search rules) in
    let now = c.loop-called.self in
    sym (dues_end c.args.proc.now now.cache (map audited_put now.puts.items) (map audited_due now.dues.items))
    ∙ ap (λ (l : List Noted). map audited_due now.dues.items ++ dues c.args.proc.now now.cache (map audited_put now.puts.items) l) (sym none) ∙ c.loop-called.invariant.said

pub returns-clause-left : goal.returns-clause-left
returns-clause-left c = λ _.
    let none = no_calls_left c.args.calls.now c.loop-called.called-index (search rules) in
    let now = c.loop-called.self in
    sym (left_end c.args.proc.now now.cache (map audited_put now.puts.items)) ∙ ap (puts_after c.args.proc.now now.cache (map audited_put now.puts.items)) (sym none) ∙ c.loop-called.invariant.left
