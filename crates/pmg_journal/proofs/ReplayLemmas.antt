-- A replay with one event more.
use Rattle.std.proofs.Common.{◌≡◌, List, [], ◌∷◌, ◌++◌, refl, sym, ap, ◌∙◌}
use Rattle.std.proofs.lemmas.List.{append-nil, append_assoc}
use Rattle.pmg_node_model.specs.Acts.{Act, Reply}
use Rattle.pmg_node_model.specs.declared.sent.Sent.{Sent}
use Rattle.pmg_node.specs.Servers.{Server, after, reply_to, sent_by}
use Rattle.pmg_journal.specs.Records.{AreSteps, IsStep}
use Rattle.pmg_journal.specs.Replays.{Happening, IsReplay, after_all, happening, sent_over}
use Rattle.pmg_journal.specs.declared.record.Step.{Step}

pub after_more : (s : Server) (es : List Happening) (e : Happening) → after_all s (es ++ e ∷ []) ≡ after (after_all s es) e.act
after_more s [] e = refl
after_more s (x ∷ es) e = after_more (after s x.act) es e

-- the server stays that of its group and index
pub jobs_same : (s : Server) (es : List Happening) → (after_all s es).jobs ≡ s.jobs
jobs_same s [] = refl
jobs_same s (e ∷ es) = jobs_same (after s e.act) es

pub id_same : (s : Server) (es : List Happening) → (after_all s es).id ≡ s.id
id_same s [] = refl
id_same s (e ∷ es) = id_same (after s e.act) es

pub sent_more : (s : Server) (es : List Happening) (e : Happening) → sent_over s (es ++ e ∷ []) ≡ sent_over s es ++ sent_by (after_all s es) e.act
sent_more s [] e = append-nil (sent_by s e.act)
sent_more s (x ∷ es) e =
    ap (λ (fs : List Sent). sent_by s x.act ++ fs) (sent_more (after s x.act) es e) ∙ sym (append_assoc (sent_by s x.act) (sent_over (after s x.act) es) (sent_by (after_all (after s x.act) es) e.act))

pub replay_more : (s : Server) (es : List Happening) (e : Happening) → IsReplay s es → reply_to (after_all s es) e.act ≡ e.reply → IsReplay s (es ++ e ∷ [])
replay_more s [] e is last = (last, tt)
replay_more s (x ∷ es) e is last = (is.0, replay_more (after s x.act) es e is.1 last)

-- the last reply is the one that the server gives to the last act
pub last_is : (s : Server) (es : List Happening) (a : Act) (r : Reply) → IsReplay s (es ++ happening a r ∷ []) → reply_to (after_all s es) a ≡ r
last_is s [] a r replay = replay.0
last_is s (e ∷ es) a r replay = last_is (after s e.act) es a r replay.1

-- the steps with one more
pub steps_more : (s : Server) (es : List Happening) (xs : List Step) (e : Happening) (x : Step) → AreSteps s es xs → IsStep (after_all s es) e x → AreSteps s (es ++ e ∷ []) (xs ++ x ∷ [])
steps_more s [] [] e x are is = (is, tt)
steps_more s [] (y ∷ xs) e x are is = absurd are
steps_more s (d ∷ es) [] e x are is = absurd are
steps_more s (d ∷ es) (y ∷ xs) e x are is = (are.0, steps_more (after s d.act) es xs e x are.1 is)
