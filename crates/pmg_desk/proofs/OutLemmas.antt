-- What the lock lets out: viewers for processes at home, frames, and a dump.
use Rattle.std.proofs.Common.{◌≡◌, ℕ, List, false, is_none, Option, Some, None, Result, Ok, Err, drop, inl, inr, sym, ap, subst, ◌∙◌}
use Rattle.std.specs.Prelude.{IfSome}
use Rattle.std.specs.Option.{option_map}
use Rattle.pmg_value.specs.CheckOrder.{first_of}
use Rattle.pmg_value.specs.declared.process.Proc.{Proc}
use Rattle.pmg_value.specs.declared.refusal.Refusal.{Refusal}
use Rattle.pmg_store.specs.Dump.{dump}
use Rattle.pmg_jobinfo.specs.Jobs.{Jobs}
use Rattle.pmg_node_model.specs.Acts.{caller_cause}
use Rattle.pmg_node_model.specs.Kept.{IsOwn}
use Rattle.pmg_node_model.specs.declared.sent.Sent.{Sent}
use Rattle.pmg_node_model.proofs.CauseFacts.{NoCause, by_causes}
use Rattle.pmg_node_model.proofs.KeptBasics.{caller_is}
use Rattle.pmg_node.specs.Opening.{new_server}
use Rattle.pmg_node.specs.Servers.{Server}
use Rattle.pmg_desk.specs.declared.state.Parts.{Parts}
use Rattle.pmg_journal.specs.Journals.{start_of, happened_in}
use Rattle.pmg_journal.specs.Replays.{Happening, sent_over}
use Rattle.pmg_journal.proofs.ReplayLemmas.{id_same, jobs_same}
use Rattle.pmg_desk.specs.States.{IsStateKept, IsLive}
use Rattle.pmg_desk.specs.Telling.{WasFarDump, WasSent}

-- the answer to a caller who is judged
abbrev pub judged : Proc → Server → Result (Unit {0}) Refusal
judged q s = first_of (caller_cause s.jobs s.id s.holding q) (tt {0})

not_refused : (e : Refusal) → ◌≡◌ {A = Result (Unit {0}) Refusal} (Err e) (Ok tt) → ⊥
not_refused e is = cc

no_cause : (q : Proc) (s : Server) → judged q s ≡ Ok tt → NoCause (caller_cause s.jobs s.id s.holding q)
no_cause q s is = elim (by_causes (caller_cause s.jobs s.id s.holding q) (tt {0})) [ inl found ↦ absurd (not_refused found.0 (sym found.2 ∙ is)) | inr none ↦ none.1 ]

own_there : (q : Proc) (s : Server) → judged q s ≡ Ok tt → IsOwn s.jobs s.id q
own_there q s is = let none = no_cause q s is in caller_is s.jobs s.id s.holding q none.1.0 none.1.1.0 none.1.1.1.0

module _ (jobs : Jobs) (id : ℕ) (es : List Happening) (taken : ℕ) (out : List Sent) where
  own_live : (q : Proc) (n : Option Server) → IfSome n (IsLive (new_server jobs id) es taken out) → option_map (judged q) n ≡ Some (Ok tt) → IsOwn jobs id q
  own_live q None live is = absurd cc
  own_live q (Some s) live is =
      let there : IsOwn s.jobs s.id q = own_there q s cc in
      subst (λ (j : Jobs). IsOwn j id q) (ap (λ (x : Server). x.jobs) live.node_is ∙ jobs_same (new_server jobs id) es)
      (subst (λ (k : ℕ). IsOwn s.jobs k q) (ap (λ (x : Server). x.id) live.node_is ∙ id_same (new_server jobs id) es) there)

  rest_live : (n : Option Server) → is_none n ≡ false → IfSome n (IsLive (new_server jobs id) es taken out) → out ≡ drop taken (sent_over (new_server jobs id) es)
  rest_live None there live = absurd cc
  rest_live (Some s) there live = live.outbox_is

module _ (p : Parts) (kept : IsStateKept p) where
  -- a caller of whom nothing is amiss is a process of the group, at home at the node
  pub own_by : (q : Proc) → option_map (judged q) p.node ≡ Some (Ok tt) → IsOwn p.journal.registry p.journal.node q
  own_by q is = own_live p.journal.registry p.journal.node (happened_in p.journal) p.taken p.outbox.items q p.node kept.live is

  -- the frames of the outbox are the rest of those that were sent
  pub sent_rest : is_none p.node ≡ false → WasSent p.journal.registry p.journal.node p.outbox.items
  sent_rest there = record {
    es = happened_in p.journal;
    replay = kept.journal;
    taken = p.taken;
    are_the_rest = rest_live p.journal.registry p.journal.node (happened_in p.journal) p.taken p.outbox.items p.node there kept.live;
  }

  -- the dump of the node's far store
  pub far_dump_of : (s : Server) → p.node ≡ Some s → (text : List ℕ) → text ≡ dump s.holding.far → WasFarDump p.journal.registry p.journal.node text
  far_dump_of s here text is =
      let live = subst (λ (n : Option Server). IfSome n (IsLive (start_of p.journal) (happened_in p.journal) p.taken p.outbox.items)) here kept.live in
      record { es = happened_in p.journal; replay = kept.journal; is_dump = is ∙ ap (λ (x : Server). dump x.holding.far) live.node_is }
