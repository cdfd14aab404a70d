-- An order of moves, one move further, and where it ends.
use Rattle.std.proofs.Common.{◌≡◌, ◌⊎◌, ℕ, zero, suc, ◌+◌, ◌<◌, Bool, true, false, ◌==◌, cond, List, [], ◌∷◌, ◌++◌, length, map, set, inl, inr, refl, sym, ap, subst, ◌∙◌, append_assoc, arith}
use Rattle.std.proofs.lemmas.Bool.Decides.{nat_tests}
use Rattle.std.proofs.lemmas.List.{append-nil}
use Rattle.pmg_value.specs.Lists.{In, Each}
use Rattle.pmg_value.proofs.ListLemmas.{in_append_left, in_append_right, in_map, in_parts}
use Rattle.pmg_node_model.specs.Acts.{Act}
use Rattle.pmg_node_model.specs.Sending.{sent}
use Rattle.pmg_node_model.specs.declared.sent.Sent.{Sent}
use Rattle.pmg_group_model.specs.Worlds.{Event, Happened}
use Rattle.pmg_journal.specs.Calling.{caller_of}
use Rattle.pmg_audit.specs.Going.{AreDone, IsOrderGoing, IsOpen, IsReady, MayGoNext, frames_of, left, weight}
use Rattle.pmg_audit.specs.Moves.{Move}
use Rattle.pmg_audit.specs.Orders.{AreTold, Goes, IsEventOf, MayGo, NoOrder, TellsMoves, event_happened, moves_at, put_rest, puts_told}

same_index : (k n : ℕ) → (k == n) ≡ true → k ≡ n
same_index k n e = grind (arith, nat_tests)

other_index : (k n : ℕ) → (k == n) ≡ false → k ≡ n → ⊥
other_index k n e same = grind (arith, nat_tests)

-- ---- frames that were sent

-- all of these frames are among those
abbrev Among : List Sent → List Sent → Type 0
Among some frames = (s : Sent) → In s some → In s frames

each_among : (frames some : List Sent) → Each (λ s. In s frames) some → Among some frames
each_among frames [] each s i = absurd i
each_among frames (x ∷ some) each s (inl same) = subst (λ (y : Sent). In y frames) (sym same) each.0
each_among frames (x ∷ some) each s (inr later) = each_among frames some each.1 s later

among_each : (frames some : List Sent) → Among some frames → Each (λ s. In s frames) some
among_each frames [] among = tt
among_each frames (x ∷ some) among = (among x (inl refl), among_each frames some (λ s i. among s (inr i)))

each_on : (some frames more : List Sent) → Each (λ s. In s frames) some → Each (λ s. In s (frames ++ more)) some
each_on some frames more each = among_each (frames ++ more) some (λ s i. in_append_left frames more s (each_among frames some each s i))

may_go_on : (n : ℕ) (a : Act) (some frames : List Sent) → Among some frames → MayGo n a some → MayGo n a frames
may_go_on n (Act.deliver frame) some frames among may = among (sent n frame) may
may_go_on n (Act.request r) some frames among may = tt
may_go_on n (Act.commit p b) some frames among may = tt

flat_append : (xs ys : List Move) → frames_of (xs ++ ys) ≡ frames_of xs ++ frames_of ys
flat_append [] ys = refl
flat_append (x ∷ xs) ys = ap (λ l. x.frames ++ l) (flat_append xs ys) ∙ sym (append_assoc x.frames (frames_of xs) (frames_of ys))

-- ---- what is left of each node

-- a node of which something is left is one of them
pub left_inside : (rest : List (List Move)) (n : ℕ) (m : Move) (later : List Move) → moves_at rest n ≡ m ∷ later → n < length rest
left_inside [] n m later is = absurd cc
left_inside (ms ∷ rest) zero m later is = omega arith
left_inside (ms ∷ rest) (suc n) m later is = let less = left_inside rest n m later is in omega (arith, less)

left_same : (rest : List (List Move)) (n : ℕ) (later : List Move) → n < length rest → moves_at (set rest n later) n ≡ later
left_same [] n later inside = absurd (omega (arith, inside))
left_same (ms ∷ rest) zero later inside = refl
left_same (ms ∷ rest) (suc n) later inside = left_same rest n later (omega (arith, inside))

left_other : (rest : List (List Move)) (n k : ℕ) (later : List Move) → (k ≡ n → ⊥) → moves_at (set rest n later) k ≡ moves_at rest k
left_other [] n k later apart = refl
left_other (ms ∷ rest) zero zero later apart = absurd (apart refl)
left_other (ms ∷ rest) zero (suc k) later apart = refl
left_other (ms ∷ rest) (suc n) zero later apart = refl
left_other (ms ∷ rest) (suc n) (suc k) later apart = left_other rest n k later (λ e. apart (ap suc e))

-- ---- no order

not_done : (ahead ms : List Move) → ahead ++ ms ≡ [] → ms ≡ []
not_done [] ms e = e
not_done (x ∷ ahead) ms e = absurd cc

module _ (all rest : List (List Move)) (frames : List Sent) (told : List Happened) (going : IsOrderGoing all rest frames told)
    (none : (n : ℕ) → IsReady rest frames n → ⊥) (open_at : ℕ) (is_open : IsOpen rest open_at) where
  -- each node has these moves before what is left of it, whose frames were sent; and these frames were sent
  record IsBehind (js : ℕ → List Move) (some : List Sent) : Type 0 where
    ahead : ℕ → List Move
    cut : (n : ℕ) → js n ≡ ahead n ++ moves_at rest n
    sent : (n : ℕ) → Each (λ s. In s frames) (frames_of (ahead n))
    among : Among some frames

  -- the next move is not the first one that is left, since that may not come
  step_behind : (js : ℕ → List Move) (some : List Sent) (b : IsBehind js some) (n : ℕ) (m : Move) (later : List Move) → js n ≡ m ∷ later → MayGo n m.act some
      → (ahead : List Move) → b.ahead n ≡ ahead → IsBehind (put_rest js n later) (some ++ m.frames)
  step_behind js some b n m later next may [] is =
      let there : moves_at rest n ≡ m ∷ later = ap (λ l. l ++ moves_at rest n) (sym is) ∙ sym (b.cut n) ∙ next in
      absurd (none n (subst (λ (ms : List Move). MayGoNext n ms frames) (sym there) (may_go_on n m.act some frames b.among may)))
  step_behind js some b n m later next may (x ∷ xs) is =
      let both : x ∷ xs ++ moves_at rest n ≡ m ∷ later = ap (λ l. l ++ moves_at rest n) (sym is) ∙ sym (b.cut n) ∙ next in
      let one : x ≡ m = cc in
      let others : xs ++ moves_at rest n ≡ later = cc in
      let were = each_among frames (x.frames ++ frames_of xs) (subst (λ l. Each (λ s. In s frames) (frames_of l)) is (b.sent n)) in
      record {
        ahead = λ k. cond (k == n) xs (b.ahead k);
        cut = λ k. by k (k == n) refl others;
        sent = λ k. still k (k == n) refl (among_each frames (frames_of xs) (λ s i. were s (in_append_right x.frames (frames_of xs) s i)));
        among = λ s i. elim (in_parts some m.frames s i) [
          | inl j ↦ b.among s j
          | inr j ↦ were s (in_append_left x.frames (frames_of xs) s (subst (λ (y : Move). In s y.frames) (sym one) j))
        ];
      }
    where
      by : (k : ℕ) (t : Bool) → (k == n) ≡ t → xs ++ moves_at rest n ≡ later → cond t later (js k) ≡ cond t xs (b.ahead k) ++ moves_at rest k
      by k true e others = sym others ∙ ap (λ i. xs ++ moves_at rest i) (sym (same_index k n e))
      by k false e others = b.cut k

      still : (k : ℕ) (t : Bool) → (k == n) ≡ t → Each (λ s. In s frames) (frames_of xs) → Each (λ s. In s frames) (frames_of (cond t xs (b.ahead k)))
      still k true e were = were
      still k false e were = b.sent k

  -- where nothing is ready no order of what is left comes to an end
  stuck : (order : List ℕ) (js : ℕ → List Move) (some : List Sent) → IsBehind js some → Goes js some order → ⊥
  unfolding Goes
  stuck [] js some b goes = is_open (not_done (b.ahead open_at) (moves_at rest open_at) (sym (b.cut open_at) ∙ goes open_at))
  stuck (n ∷ order) js some b goes =
      let m : Move = goes.0 in
      stuck order (put_rest js n goes.1) (some ++ m.frames) (step_behind js some b n m goes.1 goes.2 goes.3 (b.ahead n) refl) goes.4

  pub no_order : NoOrder all
  no_order order goes =
      stuck order (moves_at all) [] (record { ahead = λ n. (going.covered n).done; cut = λ n. (going.covered n).cut; sent = λ n. (going.covered n).sent; among = λ s i. absurd i }) goes

-- ---- one move further

module _ (all rest : List (List Move)) (frames : List Sent) (told : List Happened) (n : ℕ) (m : Move) (e : Event) (later : List Move) (there : moves_at rest n ≡ m ∷ later) where
  abbrev rest2 : List (List Move)
  rest2 = set rest n later

  left_now : (k : ℕ) (b : Bool) → (k == n) ≡ b → moves_at rest2 k ≡ cond b later (moves_at rest k)
  left_now k true e = ap (moves_at rest2) (same_index k n e) ∙ left_same rest n later (left_inside rest n m later there)
  left_now k false e = left_other rest n k later (other_index k n e)

  -- what is left after the move
  rest_next : put_rest (moves_at rest) n later ≡ moves_at rest2
  rest_next = λ i k. sym (left_now k (k == n) refl) i

  done_next : (k : ℕ) (b : Bool) → (k == n) ≡ b → AreDone frames (moves_at all k) (moves_at rest k) → AreDone (frames ++ m.frames) (moves_at all k) (cond b later (moves_at rest k))
  done_next k true e are = record {
    done = are.done ++ m ∷ [];
    cut = are.cut ∙ ap (λ l. are.done ++ l) (ap (moves_at rest) (same_index k n e) ∙ there) ∙ sym (append_assoc are.done (m ∷ []) later);
    sent =
        subst (Each (λ s. In s (frames ++ m.frames))) (sym (flat_append are.done (m ∷ []) ∙ ap (λ l. frames_of are.done ++ l) (append-nil m.frames)))
        (among_each (frames ++ m.frames) _ (λ s i.
        elim (in_parts (frames_of are.done) m.frames s i) [
          | inl j ↦ in_append_left frames m.frames s (each_among frames _ are.sent s j)
          | inr j ↦ in_append_right frames m.frames s j
        ]));
  }
  done_next k false e are = record { done = are.done; cut = are.cut; sent = each_on _ frames m.frames are.sent }

  told_on : IsOrderGoing all rest frames told → IsEventOf frames n m.act e → (order : List ℕ) (others : List Happened) (final : List Sent)
      → TellsMoves (moves_at rest2) (frames ++ m.frames) order others final → AreTold all ((told ++ (puts_told (caller_of m.act) m.puts ++ event_happened e m.reply ∷ [])) ++ others) final
  unfolding TellsMoves
  told_on going event order others final tells =
      let puts = puts_told (caller_of m.act) m.puts in
      let one : Happened = event_happened e m.reply in
      let cut : told ++ (puts ++ one ∷ others) ≡ (told ++ (puts ++ one ∷ [])) ++ others =
      ap (λ l. told ++ l) (sym (append_assoc puts (one ∷ []) others)) ∙ sym (append_assoc told (puts ++ one ∷ []) others) in
      subst (λ l. AreTold all l final) cut
      (going.sound (n ∷ order) (puts ++ one ∷ others) final (m, later, e, others, there, event, refl, subst (λ js. TellsMoves js (frames ++ m.frames) order others final) (sym rest_next) tells))

  pub going_next : IsOrderGoing all rest frames told → IsEventOf frames n m.act e
      → IsOrderGoing all rest2 (frames ++ m.frames) (told ++ (puts_told (caller_of m.act) m.puts ++ event_happened e m.reply ∷ []))
  going_next going event = record {
    covered = λ k. subst (AreDone (frames ++ m.frames) (moves_at all k)) (sym (left_now k (k == n) refl)) (done_next k (k == n) refl (going.covered k));
    sound = told_on going event;
  }

  -- who may go on then either might before, or was sent something
  may_cut : (k : ℕ) (ms : List Move) → MayGoNext k ms (frames ++ m.frames) → MayGoNext k ms frames ⊎ In k (map (λ (s : Sent). s.to) m.frames)
  may_cut k [] may = absurd may
  may_cut k (x ∷ ms) may = by_act x.act may
    where
      by_act : (a : Act) → MayGo k a (frames ++ m.frames) → MayGo k a frames ⊎ In k (map (λ (s : Sent). s.to) m.frames)
      by_act (Act.deliver frame) i = elim (in_parts frames m.frames (sent k frame) i) [
        | inl before ↦ inl before
        | inr now ↦ inr (in_map (λ (s : Sent). s.to) m.frames (sent k frame) now)
      ]
      by_act (Act.request r) i = inl tt
      by_act (Act.commit p b) i = inl tt

  pub awake_next : (awake : List ℕ) → ((k : ℕ) → IsReady rest frames k → In k awake) → In n awake
      → (k : ℕ) → IsReady rest2 (frames ++ m.frames) k → In k (awake ++ map (λ (s : Sent). s.to) m.frames)
  awake_next awake was here k ready = by (k == n) refl
    where
      by : (b : Bool) → (k == n) ≡ b → In k (awake ++ map (λ (s : Sent). s.to) m.frames)
      by true e = in_append_left awake (map (λ (s : Sent). s.to) m.frames) k (subst (λ i. In i awake) (sym (same_index k n e)) here)
      by false e = elim (may_cut k (moves_at rest k) (subst (λ ms. MayGoNext k ms (frames ++ m.frames)) (left_now k false e) ready)) [
        | inl before ↦ in_append_left awake (map (λ (s : Sent). s.to) m.frames) k (was k before)
        | inr now ↦ in_append_right awake (map (λ (s : Sent). s.to) m.frames) k now
      ]

-- ---- the start, and the end

pub going_start : (all : List (List Move)) → IsOrderGoing all all [] []
unfolding AreTold
going_start all = record {
  covered = λ n. record { done = []; cut = refl; sent = tt };
  sound = λ order others final tells. (order, tells);
}

pub going_end : (all rest : List (List Move)) (frames : List Sent) (told : List Happened) → IsOrderGoing all rest frames told → ((n : ℕ) → moves_at rest n ≡ []) → AreTold all told frames
unfolding TellsMoves
going_end all rest frames told going none = subst (λ l. AreTold all l frames) (append-nil told) (going.sound [] [] frames (none, refl, refl))

-- ---- how many are left

-- one move less, and the frames that it sends
pub left_less : (rest : List (List Move)) (n : ℕ) (m : Move) (later : List Move) → moves_at rest n ≡ m ∷ later → left (set rest n later) + suc (length m.frames) ≡ left rest
left_less [] n m later is = absurd cc
left_less (ms ∷ rest) zero m later is =
    let one : weight ms ≡ weight (m ∷ later) = ap weight is in
    omega (arith, one)
left_less (ms ∷ rest) (suc n) m later is =
    let less = left_less rest n m later is in
    omega (arith, less)
