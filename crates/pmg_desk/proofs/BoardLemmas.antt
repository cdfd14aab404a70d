-- What a replay publishes makes the stores of the node that it leaves.
use Rattle.std.proofs.Common.{◌≡◌, List, [], ◌∷◌, ◌++◌, Option, Some, None, refl, sym, ap, ◌∙◌}
use Rattle.std.specs.Option.{option_to_list}
use Rattle.std.proofs.lemmas.List.{append-nil, append_assoc}
use Rattle.std.specs.FinMap as finite
use Rattle.pmg_commit.specs.Data.{Data, join_data, of_contribution}
use Rattle.pmg_commit.specs.Knowledge.{Contribution}
use Rattle.pmg_store.specs.Pieces.{data_of}
use Rattle.pmg_store.proofs.Converging.{joined_to_nothing, nothing_joined}
use Rattle.pmg_node_model.specs.Acts.{Act}
use Rattle.pmg_node_model.specs.Holdings.{joined}
use Rattle.pmg_publish.proofs.Steps.{far-more, near-more}
use Rattle.pmg_publish.specs.Publications.{far_of, near_of}
use Rattle.pmg_publish.specs.declared.counting.Publication.{Publication}
use Rattle.pmg_node.proofs.JoiningLemmas.{joins_are_all}
use Rattle.pmg_node.specs.Joining.{joins}
use Rattle.pmg_node.specs.Opening.{new_server}
use Rattle.pmg_node.specs.Servers.{Server, after}
use Rattle.pmg_desk.specs.Boards.{PublishesWhatIsHeld}
use Rattle.pmg_journal.specs.Replays.{Happening, after_all}
use Rattle.pmg_desk.specs.Publishing.{publications_of, published_by, published_over}

-- what is joined, as a list of at most one
joined_is : (d : Data) (o : Option Contribution) → join_data d (data_of (option_to_list o)) ≡ joined d o
joined_is d None = nothing_joined d
joined_is d (Some c) = ap (join_data d) (joined_to_nothing (of_contribution c))

-- what is read once it is published
module _ (log : List Publication) where
  near_joined : (near far : Option Contribution) → near_of (log ++ publications_of near far) ≡ joined (near_of log) near
  near_joined None None = ap near_of (append-nil log)
  near_joined None (Some c) = near-more log [] (c ∷ []) ∙ joined_is (near_of log) None
  near_joined (Some c) far = near-more log (c ∷ []) (option_to_list far) ∙ joined_is (near_of log) (Some c)

  far_joined : (near far : Option Contribution) → far_of (log ++ publications_of near far) ≡ joined (far_of log) far
  far_joined None None = ap far_of (append-nil log)
  far_joined None (Some c) = far-more log [] (c ∷ []) ∙ joined_is (far_of log) (Some c)
  far_joined (Some c) far = far-more log (c ∷ []) (option_to_list far) ∙ joined_is (far_of log) far

module _ (s : Server) (a : Act) (log : List Publication) where
  near_on : near_of log ≡ s.holding.near → near_of (log ++ published_by s a) ≡ (after s a).holding.near
  near_on is =
      near_joined log (joins s.jobs s.id s.holding a).near (joins s.jobs s.id s.holding a).far
      ∙ ap (λ (d : Data). joined d (joins s.jobs s.id s.holding a).near) is ∙ sym (joins_are_all s.jobs s.id s.holding a).0

  far_on : far_of log ≡ s.holding.far → far_of (log ++ published_by s a) ≡ (after s a).holding.far
  far_on is =
      far_joined log (joins s.jobs s.id s.holding a).near (joins s.jobs s.id s.holding a).far
      ∙ ap (λ (d : Data). joined d (joins s.jobs s.id s.holding a).far) is ∙ sym (joins_are_all s.jobs s.id s.holding a).1

near_over : (s : Server) (es : List Happening) (log : List Publication) → near_of log ≡ s.holding.near → near_of (log ++ published_over s es) ≡ (after_all s es).holding.near
near_over s [] log is = ap near_of (append-nil log) ∙ is
near_over s (e ∷ es) log is =
    ap near_of (sym (append_assoc log (published_by s e.act) (published_over (after s e.act) es)))
    ∙ near_over (after s e.act) es (log ++ published_by s e.act) (near_on s e.act log is)

far_over : (s : Server) (es : List Happening) (log : List Publication) → far_of log ≡ s.holding.far → far_of (log ++ published_over s es) ≡ (after_all s es).holding.far
far_over s [] log is = ap far_of (append-nil log) ∙ is
far_over s (e ∷ es) log is =
    ap far_of (sym (append_assoc log (published_by s e.act) (published_over (after s e.act) es)))
    ∙ far_over (after s e.act) es (log ++ published_by s e.act) (far_on s e.act log is)

none_near : near_of [] ≡ finite.empty
unfolding near_of
none_near = refl

none_far : far_of [] ≡ finite.empty
unfolding far_of
none_far = refl

pub publishes_what_is_held : PublishesWhatIsHeld
publishes_what_is_held jobs id es =
    (near_over (new_server jobs id) es [] none_near, far_over (new_server jobs id) es [] none_far)
