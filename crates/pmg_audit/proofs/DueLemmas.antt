-- What a transcript says of its client's events.
use Rattle.std.proofs.Common.{◌≡◌, ℕ, Bool, true, false, ◌&&◌, cond, List, [], ◌∷◌, ◌++◌, ◌+◌, ◌<◌, ◌≤◌, length, get_or, drop, map, filter, is_ok, Some, None, Result, Ok, Err, refl, sym, ap, subst, ◌∙◌, append_assoc}
use Rattle.std.proofs.lemmas.Bool.{and_parts, false≢true}
use Rattle.std.proofs.lemmas.List.{append-nil, drop_all, drop_more}
use Rattle.pmg_value.specs.CheckOrder.{first_of}
use Rattle.pmg_value.specs.declared.process.Proc.{Proc}
use Rattle.pmg_value.specs.declared.refusal.Refusal.{Refusal}
use Rattle.pmg_scope.specs.Cached.{Cached, no_puts, put_cause, unsealed_of, with_put}
use Rattle.pmg_scope.specs.declared.scope.Scope.{Scope}
use Rattle.pmg_node_model.specs.Acts.{Act, Reply, Request}
use Rattle.pmg_journal.specs.Transcripts.{Calling, Noted, cached_by, commit_by, noted, noted_of}
use Rattle.pmg_journal.specs.declared.transcript.Called.{Called}
use Rattle.pmg_audit.specs.Dues.{Due, act_by, act_said, made_due, due_in, due_of, dues, is_passed, put_by_call, due_put, puts_after, puts_next, takes_put, takes_all}
use Rattle.pmg_audit.specs.Moves.{AllPut, Move, Put, PutsFit, Seals, cache_then, is_own_ask, put_all}
use Rattle.pmg_journal.specs.Calling.{is_by}

-- ---- events that are said, as moves

-- what is said fits the cache
DuesFit : Proc → Cached → List Due → Type 0
DuesFit p c [] = Unit {0}
DuesFit p c (d ∷ ds) =
    (AllPut c d.puts × Seals (put_all c d.puts) d.act × (is_own_ask d.act ≡ false)) × DuesFit p (cache_then (put_all c d.puts) d.act d.reply) ds

-- the cache after the move, where it is known who calls
cache_by : Bool → Cached → Move → Cached
cache_by b c m = cond b (cache_then (put_all c m.puts) m.act m.reply) c

one_fits : (p : Proc) (c : Cached) (m : Move) (ms : List Move) (b : Bool) → is_by p m.act ≡ b
    → ((d : Cached) → DuesFit p d (map due_in (filter (λ (x : Move). is_by p x.act) ms)) → PutsFit p d ms)
    → DuesFit p c (map due_in (cond b (m ∷ filter (λ (x : Move). is_by p x.act) ms) (filter (λ (x : Move). is_by p x.act) ms))) → PutsFit p c (m ∷ ms)
unfolding DuesFit PutsFit cache_by
one_fits p c m ms true e rest fits = (λ is. fits.0, subst (λ b. PutsFit p (cache_by b c m) ms) (sym e) (rest (cache_then (put_all c m.puts) m.act m.reply) fits.1))
one_fits p c m ms false e rest fits = (λ is. absurd (false≢true (sym e ∙ is)), subst (λ b. PutsFit p (cache_by b c m) ms) (sym e) (rest c fits))

-- moves fit the cache, of which those of the process do
moves_fit : (p : Proc) (c : Cached) (ms : List Move) → DuesFit p c (map due_in (filter (λ (m : Move). is_by p m.act) ms)) → PutsFit p c ms
unfolding PutsFit
moves_fit p c [] fits = tt
moves_fit p c (m ∷ ms) fits = one_fits p c m ms (is_by p m.act) refl (λ d. moves_fit p d ms) fits

-- ---- what a transcript says, as puts

put_all_more : (c : Cached) (puts : List Put) (x : Put) → put_all c (puts ++ x ∷ []) ≡ with_put (put_all c puts) x.scope x.key x.value
put_all_more c [] x = refl
put_all_more c (y ∷ puts) x = put_all_more (with_put c y.scope y.key y.value) puts x

all_put_more : (c : Cached) (puts : List Put) (x : Put) → AllPut c puts → first_of (put_cause (put_all c puts) x.scope x.key x.value) (tt {0}) ≡ Ok tt → AllPut c (puts ++ x ∷ [])
all_put_more c [] x all last = (last, tt)
all_put_more c (y ∷ puts) x all last = (all.0, all_put_more (with_put c y.scope y.key y.value) puts x all.1 last)

ok_is : (r : Result (Unit {0}) Refusal) → is_ok r ≡ true → r ≡ Ok tt
ok_is (Ok tt) e = refl
ok_is (Err x) e = absurd cc

-- a call that is passed over puts nothing
passed_same : (c : Cached) (puts : List Put) (call : Calling) (reply : Reply) → is_passed reply ≡ true → (cached_by c call reply ≡ c) × (put_by_call puts call reply ≡ puts)
passed_same c puts (Calling.put scope key value) (Reply.refused e) is = (refl, refl)
passed_same c puts Calling.commit (Reply.refused e) is = (refl, refl)
passed_same c puts (Calling.request r) reply is = (refl, refl)
passed_same c puts call reply is = absurd cc

-- what is left is said after what is said now
abbrev Rest : Proc → List Noted → Type 0
Rest p ns = (d e : Cached) (qs : List Put) → e ≡ put_all d qs → AllPut d qs → takes_all e ns ≡ true → DuesFit p d (dues p e qs ns)

module _ (p : Proc) (ns : List Noted) (rest : Rest p ns) (c0 c : Cached) (puts : List Put) (same : c ≡ put_all c0 puts) (all : AllPut c0 puts) where
  put_fits : (scope : Scope) (key value : List ℕ) (reply : Reply) → takes_put c (Calling.put scope key value) reply ≡ true → takes_all (cached_by c (Calling.put scope key value) reply) ns ≡ true
      → DuesFit p c0 (dues p (cached_by c (Calling.put scope key value) reply) (put_by_call puts (Calling.put scope key value) reply) ns)
  put_fits scope key value Reply.done takes_put later =
      let x = due_put scope key value in
      rest c0 (with_put c scope key value) (puts ++ x ∷ []) (ap (λ (z : Cached). with_put z scope key value) same ∙ sym (put_all_more c0 puts x))
      (all_put_more c0 puts x all (subst (λ (z : Cached). first_of (put_cause z scope key value) (tt {0}) ≡ Ok tt) same (ok_is _ takes_put))) later
  put_fits scope key value reply takes_put later = rest c0 c puts same all later

  commit_fits : (reply : Reply) → takes_all (commit_by c reply) ns ≡ true → DuesFit p c0 (made_due puts (Act.commit p (unsealed_of c)) reply ∷ dues p (commit_by c reply) [] ns)
  unfolding DuesFit
  commit_fits reply later =
      ((all, ap unsealed_of same, refl), rest (commit_by (put_all c0 puts) reply) (commit_by c reply) [] (ap (λ (z : Cached). commit_by z reply) same) tt later)

  request_fits : (r : Request) (reply : Reply) (own : Bool) → is_own_ask (Act.request r) ≡ own → takes_all c ns ≡ true
      → DuesFit p c0 (due_of puts reply (cond own None (Some (Act.request r))) ++ dues p c (puts_next puts (noted (Calling.request r) reply) (cond own None (Some (Act.request r)))) ns)
  unfolding DuesFit
  request_fits r reply true is later = rest c0 c puts same all later
  request_fits r reply false is later = ((all, tt, is), rest (put_all c0 puts) c [] same tt later)

  call_fits : (call : Calling) (reply : Reply) (passed : Bool) → is_passed reply ≡ passed → takes_put c call reply ≡ true → takes_all (cached_by c call reply) ns ≡ true
      → DuesFit p c0 (due_of puts reply (cond passed None (act_by p c call)) ++ dues p (cached_by c call reply) (puts_next puts (noted call reply) (cond passed None (act_by p c call))) ns)
  call_fits call reply true is takes_put later =
      let none = passed_same c puts call reply is in
      rest c0 (cached_by c call reply) (put_by_call puts call reply) (none.0 ∙ same ∙ ap (put_all c0) (sym none.1)) (subst (AllPut c0) (sym none.1) all) later
  call_fits (Calling.put scope key value) reply false is takes_put later = put_fits scope key value reply takes_put later
  call_fits Calling.commit reply false is takes_put later = commit_fits reply later
  call_fits (Calling.request r) reply false is takes_put later = request_fits r reply (is_own_ask (Act.request r)) refl later

-- what the calls say fits the cache
dues_fit : (p : Proc) (ns : List Noted) → Rest p ns
unfolding dues takes_all DuesFit
dues_fit p [] d e qs same all taken = tt
dues_fit p (n ∷ ns) d e qs same all taken =
    let parts = and_parts (takes_put e n.call n.reply) _ taken in
    call_fits p ns (λ c0 c puts. dues_fit p ns c0 c puts) d e qs same all n.call n.reply (is_passed n.reply) refl parts.0 parts.1

-- moves whose puts a transcript says fit the cache
pub said_fit : (p : Proc) (ns : List Noted) (ms : List Move) → takes_all no_puts ns ≡ true → map due_in (filter (λ (m : Move). is_by p m.act) ms) ≡ dues p no_puts [] ns → PutsFit p no_puts ms
said_fit p ns ms taken said = moves_fit p no_puts ms (subst (DuesFit p no_puts) (sym said) (dues_fit p ns no_puts no_puts [] refl tt taken))

-- and so do moves of which none is the process's
pub none_fit : (p : Proc) (ms : List Move) → map due_in (filter (λ (m : Move). is_by p m.act) ms) ≡ [] → PutsFit p no_puts ms
unfolding DuesFit
none_fit p ms none = moves_fit p no_puts ms (subst (DuesFit p no_puts) (sym none) tt)

-- ---- a transcript, one call further

pub dues_next : (p : Proc) (c : Cached) (puts : List Put) (n : Noted) (ns : List Noted) (before now : List Due) (d : Cached) (qs : List Put)
    → now ≡ before ++ due_of puts n.reply (act_said p c n) → d ≡ cached_by c n.call n.reply → qs ≡ puts_next puts n (act_said p c n)
    → now ++ dues p d qs ns ≡ before ++ dues p c puts (n ∷ ns)
unfolding dues
dues_next p c puts n ns before now d qs is cache put =
    (λ i. is i ++ dues p (cache i) (put i) ns) ∙ append_assoc before (due_of puts n.reply (act_said p c n)) (dues p (cached_by c n.call n.reply) (puts_next puts n (act_said p c n)) ns)

pub dues_end : (p : Proc) (c : Cached) (puts : List Put) (now : List Due) → now ++ dues p c puts [] ≡ now
unfolding dues
dues_end p c puts now = append-nil now

pub left_next : (p : Proc) (c : Cached) (puts : List Put) (n : Noted) (ns : List Noted) (d : Cached) (qs : List Put) → d ≡ cached_by c n.call n.reply → qs ≡ puts_next puts n (act_said p c n)
    → puts_after p d qs ns ≡ puts_after p c puts (n ∷ ns)
unfolding puts_after
left_next p c puts n ns d qs cache put = (λ i. puts_after p (cache i) (put i) ns)

pub left_end : (p : Proc) (c : Cached) (puts : List Put) → puts_after p c puts [] ≡ puts
unfolding puts_after
left_end p c puts = refl

pub taken_stops : (c : Cached) (n : Noted) (ns : List Noted) → takes_put c n.call n.reply ≡ false → takes_all c (n ∷ ns) ≡ false
unfolding takes_all
taken_stops c n ns stops = ap (λ b. b && takes_all (cached_by c n.call n.reply) ns) stops

pub taken_next : (c d : Cached) (n : Noted) (ns : List Noted) → takes_put c n.call n.reply ≡ true → d ≡ cached_by c n.call n.reply → takes_all d ns ≡ takes_all c (n ∷ ns)
unfolding takes_all
taken_next c d n ns goes is = ap (λ (x : Cached). takes_all x ns) is ∙ sym (ap (λ b. b && takes_all (cached_by c n.call n.reply) ns) goes)

pub taken_end : (c : Cached) → takes_all c [] ≡ true
unfolding takes_all
taken_end c = refl

-- the calls that are left, of which this is the first
pub calls_left : (calls : List Called) (i : ℕ) (x : Called) → i < length calls → x ≡ get_or calls i x → map noted_of (drop i calls) ≡ noted_of x ∷ map noted_of (drop (i + 1) calls)
calls_left calls i x inside is = ap (map noted_of) (drop_more calls i x inside) ∙ ap (λ (y : Called). noted_of y ∷ map noted_of (drop (i + 1) calls)) (sym is)

pub no_calls_left : (calls : List Called) (i : ℕ) → length calls ≤ i → map noted_of (drop i calls) ≡ []
no_calls_left calls i past = ap (map noted_of) (drop_all i calls past)
