use Rattle.std.proofs.Common.{◌≤◌, Result, Ok, Err}
use Rattle.std.specs.Prelude.{OnOk}
use Rattle.pmg_frame.proofs.RefreshTests.{are_replies}
use Rattle.pmg_frame.proofs.writing.put_refresh_reply.Goals as goal

on_ok_both : {T E A B C : Type 0} (r : Result T E) → OnOk r A → OnOk r B → (A → B → C) → OnOk r C
on_ok_both (Ok x) a b f = f a b
on_ok_both (Err e) a b f = tt

pub returns-clause-valid : goal.returns-clause-valid
returns-clause-valid c =
    let r = c.args.reply.now in
    let node : r.node ≤ 63 = rw c.node.ensures at c.in_ok-put_asker.ensures.bound in
    on_ok_both c.put_told.result c.put_told.ensures.name c.put_told.ensures.entries
    (λ name are. ((are_replies r node (rw c.proc.ensures at name) (rw c.entries.ensures.value at are)).0 c.entries.ensures.reply).0)
