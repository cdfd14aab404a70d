use Rattle.std.proofs.Common.{List, ℕ, IsTrue, codes, decimal, sym, ap, subst, ◌∙◌}
use Rattle.std.specs.List.{join_by}
use Rattle.pmg_value.specs.Blobs.{is_text}
use Rattle.pmg_jobinfo.proofs.PeerLemmas.{peers_are_text}
use Rattle.pmg_jobinfo.proofs.homes.peers_at.Goals as goal

pub from_text-requires : goal.from_text-requires
from_text-requires c =
    let is = c.deref-2.ensures.value ∙ c.in_ok-text.ensures ∙ ap (join_by decimal (codes ",")) (c.deref.ensures.value ∙ c.in_ok-ranks.ensures) in
    subst (λ (bs : List ℕ). IsTrue (is_text bs)) (sym is) (peers_are_text c.args.node c.args.homes.now c.requires)
