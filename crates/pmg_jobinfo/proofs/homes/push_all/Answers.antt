use Rattle.std.proofs.Common.{◌≡◌, ◌++◌, [], ◌∷◌, List, sym, ap, ◌∙◌}
use Rattle.std.proofs.lemmas.List.{append_assoc}
use Rattle.pmg_value.specs.declared.process.Proc.{Proc}
use Rattle.pmg_jobinfo.specs.Expansion.{ranks}
use Rattle.pmg_jobinfo.specs.Procs.{procs_of}
use Rattle.pmg_jobinfo.proofs.SpaceLemmas.{more_procs}
use Rattle.pmg_jobinfo.proofs.homes.push_all.Goals as goal

pub loop-rank-preserved : goal.loop-rank-preserved
loop-rank-preserved c =
    let name = c.args.nspace.now in
    let rank = c.loop-rank.rank in
    let before = c.args.procs.now.items in
    let one : c.new-in-loop-rank.result ≡ record { nspace = name; rank = rank } =
    λ i. record { nspace = (c.new-in-loop-rank.ensures.nspace ∙ c.in_ok-copy.ensures) i; rank = (c.new-in-loop-rank.ensures.rank ∙ c.new.ensures) i } in
    c.in_ok-push.ensures.items
    ∙ (λ i. c.loop-rank.invariant i ++ one i ∷ [])
    ∙ append_assoc before (procs_of name (ranks rank)) (record { nspace = name; rank = rank } ∷ [])
    ∙ ap (λ (ps : List Proc). before ++ ps) (sym (more_procs name rank))
