use Rattle.std.proofs.Common.{◌≡◌, true, ap, sym, ◌∙◌}
use Rattle.pmg_value.specs.Names.{is_nspace}
use Rattle.pmg_commit.proofs.SealerFacts.{gives_piece}
use Rattle.pmg_commit.proofs.sealer.newer_piece.Goals as goal

pub returns : goal.returns
returns c =
    let name : is_nspace c.args.proc.now.nspace ≡ true = ap is_nspace (sym (c.nspace.view_is ∙ c.in_ok-nspace.ensures)) ∙ c.nspace.invariant in
    let proc : c.new.result ≡ c.args.proc.now = λ i. record { nspace = (c.new.ensures.nspace ∙ c.in_ok-nspace.ensures) i; rank = c.new.ensures.rank i } in
    gives_piece c.args.proc.now c.args.from c.args.level c.args.stamps.now _ c.new-2.result c.requires name c.if-from-level.false
    (λ i. record { proc = proc i; from = c.args.from; to = c.args.level; entries = c.in_ok-entries.ensures i }) c.new-2.ensures
