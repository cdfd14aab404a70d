-- What a replay with one event more publishes, and what is live then.
use Rattle.std.proofs.Common.{◌≡◌, ℕ, ◌+◌, ◌-◌, ◌≤◌, List, [], ◌∷◌, ◌++◌, length, drop, sym, ap, subst, ◌∙◌, arith}
use Rattle.std.proofs.lemmas.List.{append-nil, append_assoc, drop-append-le, drop_all, length-append, length-drop}
use Rattle.pmg_node_model.specs.Acts.{Act, Reply}
use Rattle.pmg_node_model.specs.declared.sent.Sent.{Sent}
use Rattle.pmg_node.specs.Servers.{Server, after, reply_to, sent_by}
use Rattle.pmg_publish.specs.declared.counting.Publication.{Publication}
use Rattle.pmg_journal.specs.Replays.{Happening, IsReplay, after_all, happening, sent_over}
use Rattle.pmg_journal.proofs.ReplayLemmas.{after_more, replay_more, sent_more}
use Rattle.pmg_desk.specs.Publishing.{published_by, published_over}
use Rattle.pmg_desk.specs.States.{IsLive}

pub published_more : (s : Server) (es : List Happening) (e : Happening) → published_over s (es ++ e ∷ []) ≡ published_over s es ++ published_by (after_all s es) e.act
published_more s [] e = append-nil (published_by s e.act)
published_more s (x ∷ es) e =
    ap (λ (ps : List Publication). published_by s x.act ++ ps) (published_more (after s x.act) es e)
    ∙ sym (append_assoc (published_by s x.act) (published_over (after s x.act) es) (published_by (after_all (after s x.act) es) e.act))

-- after one event more of the node that the replay leaves
module _
    (start : Server)
    (es : List Happening)
    (taken : ℕ)
    (out : List Sent)
    (s : Server)
    (live : IsLive start es taken out s)
    (a : Act)
    (r : Reply)
    (more : List Happening)
    (is : more ≡ es ++ happening a r ∷ []) where
  pub replay_on : IsReplay start es → reply_to s a ≡ r → IsReplay start more
  replay_on replay replies =
      subst (IsReplay start) (sym is) (replay_more start es (happening a r) replay (subst (λ (x : Server). reply_to x a ≡ r) live.node_is replies))

  pub published_on : (log : List Publication) → log ≡ published_over start es → log ++ published_by s a ≡ published_over start more
  published_on log shown =
      (λ i. shown i ++ published_by (live.node_is i) a) ∙ sym (published_more start es (happening a r)) ∙ ap (published_over start) (sym is)

  pub live_on : IsLive start more taken (out ++ sent_by s a) (after s a)
  live_on = record {
    node_is = ap (λ (x : Server). after x a) live.node_is ∙ sym (after_more start es (happening a r)) ∙ ap (after_all start) (sym is);
    outbox_is = (λ i. live.outbox_is i ++ sent_by (live.node_is i) a) ∙ sym (drop-append-le taken (sent_over start es) (sent_by (after_all start es) a) live.bound)
        ∙ ap (drop taken) (sym (sent_more start es (happening a r)) ∙ ap (sent_over start) (sym is));
    bound = subst (λ (fs : List Sent). taken ≤ length fs) (sym (sent_more start es (happening a r)) ∙ ap (sent_over start) (sym is)) longer;
  }
    where
      longer : taken ≤ length (sent_over start es ++ sent_by (after_all start es) a)
      longer = let bound = live.bound in omega (arith, length-append (sent_over start es) (sent_by (after_all start es) a))

-- once all frames of the outbox are taken
pub live_taken : (start : Server) (es : List Happening) (taken : ℕ) (out : List Sent) (s : Server) → IsLive start es taken out s → IsLive start es (taken + length out) [] s
live_taken start es taken out s live = record {
  node_is = live.node_is;
  outbox_is = sym (drop_all (taken + length out) (sent_over start es) (all_of live.bound count));
  bound = within live.bound count;
}
  where
    count : length out ≡ length (sent_over start es) - taken
    count = ap length live.outbox_is ∙ length-drop taken (sent_over start es)

    all_of : taken ≤ length (sent_over start es) → length out ≡ length (sent_over start es) - taken → length (sent_over start es) ≤ taken + length out
    all_of bound same = omega arith

    within : taken ≤ length (sent_over start es) → length out ≡ length (sent_over start es) - taken → taken + length out ≤ length (sent_over start es)
    within bound same = omega arith
