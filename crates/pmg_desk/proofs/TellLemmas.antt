-- What a client knows of the journal of its node, which ends with its own call.
use Rattle.std.proofs.Common.{◌≡◌, List, [], ◌∷◌, ◌++◌, refl, sym, subst, ◌∙◌, append_assoc}
use Rattle.pmg_node_model.specs.Acts.{Act, Reply}
use Rattle.pmg_node.specs.Opening.{new_server}
use Rattle.pmg_node.specs.Servers.{Server, after, reply_to}
use Rattle.pmg_journal.proofs.ReplayLemmas.{last_is}
use Rattle.pmg_journal.specs.Replays.{Happening, after_all, happening}
use Rattle.pmg_desk.specs.Clients.{Client, Tells, journal_of}
use Rattle.pmg_desk.specs.Telling.{IsKnown}

pub after_both : (s : Server) (xs ys : List Happening) → after_all s (xs ++ ys) ≡ after_all (after_all s xs) ys
after_both s [] ys = refl
after_both s (x ∷ xs) ys = after_both (after s x.act) xs ys

module _ (c d : Client) (a : Act) (r : Reply) (told : Tells c d a r) where
  -- the journal before its last event
  abbrev pub until : List Happening
  until = journal_of c ++ told.goes_on.others

  pub ends_so : journal_of d ≡ until ++ happening a r ∷ []
  ends_so = told.goes_on.list ∙ sym (append_assoc (journal_of c) told.goes_on.others (happening a r ∷ []))

  pub knows_so : IsKnown d.jobs d.node (until ++ happening a r ∷ []) d.viewer.log
  knows_so = subst (λ (es : List Happening). IsKnown d.jobs d.node es d.viewer.log) ends_so told.knows

  -- the node gave the reply
  pub replied_so : reply_to (after_all (new_server d.jobs d.node) until) a ≡ r
  replied_so = last_is (new_server d.jobs d.node) until a r knows_so.replay
