use Rattle.std.proofs.Common.{◌≡◌, arith, ℕ, Bool, true, List, sym, ap, ◌∙◌}
use Rattle.std.specs.Prelude.{◌==◌}
use Rattle.std.specs.Ordering.{is_eq}
use Rattle.pmg_value.specs.InOrder.{in_order}
use Rattle.pmg_value.specs.Signatures.{Signature, FenceName}
use Rattle.pmg_value.specs.declared.process.Proc.{Proc}
use Rattle.pmg_frame.specs.Fences.{Header}
use Rattle.pmg_frame.specs.declared.local.Local.{Local}
use Rattle.pmg_jobinfo.specs.Jobs.{Jobs, home_of}
use Rattle.pmg_fence.specs.Entering.{same_proc}
use Rattle.pmg_node_model.specs.Acts.{is_complete}
use Rattle.pmg_node.proofs.TakingHeaders.{lists, local_missing, local_other, all_listed, complete_is}
use Rattle.pmg_node.proofs.headers.is_complete.Goals as goal

-- the process is at home at the header's node
at_home : (jobs : Jobs) (p : Proc) (read node : ℕ) (b : Bool) → read ≡ node → b ≡ (home_of jobs p == read) → b ≡ true → (home_of jobs p == node) ≡ true
at_home jobs p read node b same its is = ap (λ n. home_of jobs p == n) (sym same) ∙ sym its ∙ is

-- the locals and the participants that were read are the header's
complete_as : (jobs : Jobs) (hd : Header) (ls : List Local) (ps : List Proc) (f : FenceName) (g : Signature) → ls ≡ hd.locals → ps ≡ in_order g.participants → g ≡ f.signature → f ≡ hd.name
    → lists jobs hd.node ls ps ≡ is_complete jobs hd
complete_as jobs hd ls ps f g same its signed named =
    complete_is jobs hd ls ps same (its ∙ ap (λ (x : Signature). in_order x.participants) signed ∙ ap (λ (x : FenceName). in_order x.signature.participants) named)

pub returns-then-count-locals : goal.returns-then-count-locals
returns-then-count-locals c =
    local_missing c.args.registry.now c.args.header.now.node c.locals-locals.result.now c.participants-proc-items.result.now c.loop-proc.count c.loop-proc.proc-index c.loop-proc.invariant.0
    c.proc-item.result (omega arith) c.proc-item.is (at_home c.args.registry.now c.proc-item.result _ _ _ c.node.ensures c.is_home.ensures c.if-not-is_home.false) (omega arith)
    ∙ complete_as c.args.registry.now c.args.header.now _ _ _ _ c.locals-locals.ensures.value c.participants-proc-items.ensures.value c.signature.ensures c.name.ensures

pub returns-then-not-is_eq : goal.returns-then-not-is_eq
returns-then-not-is_eq c =
    let other = ap (λ (l : Local). same_proc l.proc c.proc-item.result) c.index-locals-count.is ∙ ap is_eq (sym c.cmp.ensures) ∙ sym c.is_eq.ensures ∙ c.if-not-is_eq.true in
    local_other c.args.registry.now c.args.header.now.node c.locals-locals.result.now c.participants-proc-items.result.now c.loop-proc.count c.loop-proc.proc-index c.loop-proc.invariant.0
    c.proc-item.result c.index-locals-count.result (omega arith) c.proc-item.is (at_home c.args.registry.now c.proc-item.result _ _ _ c.node.ensures c.is_home.ensures c.if-not-is_home.false) (omega arith) c.index-locals-count.is other
    ∙ complete_as c.args.registry.now c.args.header.now _ _ _ _ c.locals-locals.ensures.value c.participants-proc-items.ensures.value c.signature.ensures c.name.ensures

pub returns : goal.returns
returns c =
    all_listed c.args.registry.now c.args.header.now.node c.locals-locals.result.now c.participants-proc-items.result.now c.loop-proc.count c.loop-proc.proc-index c.loop-proc.invariant.0
    (omega arith) (omega arith)
    ∙ complete_as c.args.registry.now c.args.header.now _ _ _ _ c.locals-locals.ensures.value c.participants-proc-items.ensures.value c.signature.ensures c.name.ensures
