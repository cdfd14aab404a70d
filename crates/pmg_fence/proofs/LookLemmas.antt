-- What a node asks of its table.
use Rattle.std.proofs.Common.{◌≡◌, ℕ, Bool, true, false, ◌==◌, ◌&&◌, ◌||◌, cond, Bor, List, [], ◌∷◌, Option, Some, None, is_some, refl, sym, ap, subst, ◌∙◌, arith}
use Rattle.std.specs.FinMap as finite
use Rattle.std.specs.FinSet as set
use Rattle.std.specs.Cmp.{Equal-is}
use Rattle.std.specs.List.{filter, find, list_any}
use Rattle.std.specs.Option.{option_map, unwrap_or}
use Rattle.std.specs.Ordering.{nat_cmp}
use Rattle.std.proofs.lemmas.Bool.{false≢true}
use Rattle.std.proofs.lemmas.Bool.Decides.{nat_tests}
use Rattle.pmg_value.specs.InOrder.{in_order}
use Rattle.pmg_value.specs.Lists.{In}
use Rattle.pmg_value.specs.Signatures.{Signature, FenceName}
use Rattle.pmg_value.specs.declared.process.Proc.{Proc}
use Rattle.pmg_value.proofs.ListLemmas.{in_from_list_any}
use Rattle.pmg_value.proofs.ProcessOrder.{procs_total, exact_procs}
use Rattle.pmg_value.proofs.SetOrder.{any_in_order}
use Rattle.pmg_frame.specs.Fences.{header, participants_of}
use Rattle.pmg_frame.specs.declared.local.Local.{Local}
use Rattle.pmg_jobinfo.specs.Jobs.{Jobs, home_of}
use Rattle.pmg_fence.specs.declared.entry.Entry.{Entry}
use Rattle.pmg_fence.specs.Entering.{same_proc, local_of, with_line, collected_locals, told_locals, locals_of}
use Rattle.pmg_fence.specs.Tables.{Fence, Series, Fences, no_series, fence_of, series_at, has_name, fence_at, entry_at, entry_in, own_header, header_at, told_of}
use Rattle.pmg_fence.specs.Codes.{Known, Owns}
use Rattle.pmg_fence.specs.Changes.{present}
use Rattle.pmg_fence.specs.Kept.{instead, entry_with, known_fence, own_of, standing_in, IsKept}
use Rattle.pmg_fence.proofs.ReadLemmas.{told_is}
use Rattle.pmg_fence.proofs.TellLemmas.{fence_known}

is_some_map : {A B : Type 0} (f : A → B) (o : Option A) → is_some (option_map f o) ≡ is_some o
is_some_map f None = refl
is_some_map f (Some x) = refl

pub name_looked : (t : Fences) (f : FenceName) (g : Signature) (i : ℕ) (o : Option (Bor Fence)) (b : Bool) → g ≡ f.signature → i ≡ f.instance
    → option_map (λ x. x.now) o ≡ finite.get (series_at t g).fences i → b ≡ is_some o → b ≡ has_name t f
unfolding has_name
name_looked t f g i o b same number found is =
    is ∙ sym (is_some_map (λ (x : Bor Fence). x.now) o) ∙ ap is_some found ∙ (λ j. is_some (finite.get (series_at t (same j)).fences (number j)))

-- ---- the own header

pub nameless_header : (jobs : Jobs) (node : ℕ) (t : Fences) (f : FenceName) → has_name t f ≡ false → None ≡ option_map (header node f) (present jobs node t f)
unfolding present
nameless_header jobs node t f e = ap (λ b. option_map (header node f) (cond b (own_header jobs node t f) None)) (sym e)

pub header_there : (k : Known) (f : FenceName) (g : Signature) (i : ℕ) → g ≡ f.signature → i ≡ f.instance → has_name k.fences f ≡ true
    → option_map (header k.node (fence_of g i)) (told_locals (instead None (entry_at k.fences (fence_of g i))) (own_of k g)) ≡ option_map (header k.node f) (present k.jobs k.node k.fences f)
unfolding present own_header locals_of
header_there k f g i same number there =
    (λ j. option_map (header k.node (fence_of (same j) (number j))) (told_locals (entry_at k.fences (fence_of (same j) (number j))) (own_of k (same j))))
    ∙ ap (λ b. option_map (header k.node f) (cond b (told_locals (entry_at k.fences f) (own_of k f.signature)) None)) (sym there)

held_by_name : (o : Option Series) (i : ℕ) → is_some (finite.get (unwrap_or o no_series).fences i) ≡ true → is_some o ≡ true
held_by_name None i e = sym (ap is_some (finite.get-empty nat_cmp i)) ∙ e
held_by_name (Some s) i e = refl

-- the own participants of a fence whose name is there are kept
pub listed_there : (k : Known) (owns : Owns) (f : FenceName) (g : Signature) (o : Option (Bor (List Proc))) {P : Type 0} → IsKept k owns → has_name k.fences f ≡ true → g ≡ f.signature
    → option_map (λ ps. ps.now) o ≡ finite.get owns g → o ≡ None → P
unfolding has_name series_at
listed_there k owns f g o kept there same found none =
    absurd (false≢true (ap is_some (ap (option_map (λ (ps : Bor (List Proc)). ps.now)) (sym none) ∙ found ∙ ap (finite.get owns) same)
    ∙ kept.held f.signature (held_by_name (finite.get k.fences.series f.signature) f.instance there)))

-- ---- whether a header is there

module _ (s : Proc → Option Entry) (own : Proc → Bool) where
  told_some : (ps : List Proc) → is_some (told_locals s (filter own ps)) ≡ (list_any own ps && is_some (collected_locals s (filter own ps)))
  told_some [] = refl
  told_some (p ∷ ps) = by_own (own p) (told_some ps)
    where
      by_own : (b : Bool) → is_some (told_locals s (filter own ps)) ≡ (list_any own ps && is_some (collected_locals s (filter own ps)))
          → is_some (told_locals s (cond b (p ∷ filter own ps) (filter own ps))) ≡ ((b || list_any own ps) && is_some (collected_locals s (cond b (p ∷ filter own ps) (filter own ps))))
      by_own true others = refl
      by_own false others = others

module _ (k : Known) (f : FenceName) (known : Fence) (same : known ≡ fence_at k.fences f) where
  pub header_elsewhere : (n : ℕ) (b : Bool) → (n == k.node) ≡ false → b ≡ is_some (finite.get known.headers n) → b ≡ is_some (header_at k.jobs k.node k.fences f n)
  unfolding header_at
  header_elsewhere n b other is =
      is ∙ ap (λ (x : Fence). is_some (finite.get x.headers n)) same
      ∙ ap (λ c. is_some (cond c (own_header k.jobs k.node k.fences f) (finite.get (fence_at k.fences f).headers n))) (sym other)

  own_is_there : (any whole : Bool) → any ≡ list_any (λ p. home_of k.jobs p == k.node) (participants_of f) → whole ≡ is_some (collected_locals (entry_with known k.fences.ends) (own_of k f.signature))
      → (any && whole) ≡ is_some (own_header k.jobs k.node k.fences f)
  unfolding own_header locals_of entry_at
  own_is_there any whole some all =
      (λ i. some i && all i)
      ∙ sym (told_some (entry_with known k.fences.ends) (λ p. home_of k.jobs p == k.node) (participants_of f))
      ∙ ap (λ (x : Fence). is_some (told_locals (entry_with x k.fences.ends) (own_of k f.signature))) same

  pub header_here : (n : ℕ) (any whole b : Bool) → (n == k.node) ≡ true → any ≡ list_any (λ p. home_of k.jobs p == k.node) (participants_of f)
      → whole ≡ is_some (collected_locals (entry_with known k.fences.ends) (own_of k f.signature)) → b ≡ (any && whole) → b ≡ is_some (header_at k.jobs k.node k.fences f n)
  unfolding header_at
  header_here n any whole b here some all is =
      is ∙ own_is_there any whole some all
      ∙ ap (λ c. is_some (cond c (own_header k.jobs k.node k.fences f) (finite.get (fence_at k.fences f).headers n))) (sym here)

pub apart : (m n x y : ℕ) → x ≡ m → y ≡ n → (x ≡ y → ⊥) → (m == n) ≡ false
apart m n x y one other e = grind (arith, nat_tests)

pub met : (m n x y : ℕ) → x ≡ m → y ≡ n → x ≡ y → (m == n) ≡ true
met m n x y one other e = grind (arith, nat_tests)

-- ---- what is told of a process

none_found : (q p : Proc) (o : Option Entry) (x : Option (List Local)) → same_proc q p ≡ false → entry_in q x ≡ None → entry_in q (with_line p o x) ≡ None
none_found q p None x other none = refl
none_found q p (Some e) None other none = refl
none_found q p (Some e) (Some ls) other none =
    ap (λ b. option_map (λ (l : Local). record { state = l.state; level = l.level }) (cond b (Some (local_of p e)) (find (λ l. same_proc q l.proc) ls))) other ∙ none

both_false : (a b : Bool) → (a || b) ≡ false → (a ≡ false) × (b ≡ false)
both_false true b e = absurd cc
both_false false b e = (refl, e)

none_lined : (s : Proc → Option Entry) (ps : List Proc) (q : Proc) → list_any (same_proc q) ps ≡ false → entry_in q (collected_locals s ps) ≡ None
none_lined s [] q e = refl
none_lined s (p ∷ ps) q e =
    let parts = both_false (same_proc q p) (list_any (same_proc q) ps) e in
    none_found q p (s p) (collected_locals s ps) parts.0 (none_lined s ps q parts.1)

none_told : (s : Proc → Option Entry) (ps : List Proc) (q : Proc) → list_any (same_proc q) ps ≡ false → entry_in q (told_locals s ps) ≡ None
none_told s [] q e = refl
none_told s (p ∷ ps) q e = none_lined s (p ∷ ps) q e

none_kept : (own p : Proc → Bool) (ps : List Proc) → list_any p ps ≡ false → list_any p (filter own ps) ≡ false
none_kept own p [] e = refl
none_kept own p (x ∷ ps) e = let parts = both_false (p x) (list_any p ps) e in by_own (own x) parts.0 (none_kept own p ps parts.1)
  where
    by_own : (b : Bool) → p x ≡ false → list_any p (filter own ps) ≡ false → list_any p (cond b (x ∷ filter own ps) (filter own ps)) ≡ false
    by_own true one others = (λ i. one i || others i)
    by_own false one others = others

-- of an own process that is no participant nothing is told
pub unlisted : (k : Known) (f : FenceName) (q : Proc) → (home_of k.jobs q == k.node) ≡ true → set.contains f.signature.participants q ≡ false → None ≡ told_of k.jobs k.node k.fences f q
unfolding told_of header_at own_header locals_of
unlisted k f q here out =
    sym (none_told (entry_at k.fences f) (own_of k f.signature) q
    (none_kept (λ p. home_of k.jobs p == k.node) (same_proc q) (participants_of f) (any_in_order procs_total f.signature.participants q ∙ out)))
    ∙ ap (λ b. entry_in q (cond b (told_locals (entry_at k.fences f) (own_of k f.signature)) (finite.get (fence_at k.fences f).headers (home_of k.jobs q)))) (sym here)

participant_in : (f : FenceName) (q : Proc) → set.contains f.signature.participants q ≡ true → In q (participants_of f)
participant_in f q e =
    let found = in_from_list_any (same_proc q) (participants_of f) (any_in_order procs_total f.signature.participants q ∙ e) in
    subst (λ p. In p (participants_of f)) (sym (exact_procs q found.0 ((Equal-is _).0 found.2))) found.1

module _ (k : Known) (f : FenceName) (g : Signature) (n : ℕ) (o : Option Fence) (whole : Bool) (same : g ≡ f.signature) (number : n ≡ f.instance)
    (found : o ≡ finite.get (series_at k.fences g).fences n) (all : whole ≡ is_some (collected_locals (entry_with (known_fence o) k.fences.ends) (own_of k g))) where
  looked : known_fence o ≡ fence_at k.fences f
  looked = fence_known k.fences g n o found ∙ (λ i. fence_at k.fences (fence_of (same i) (number i)))

  every : whole ≡ is_some (collected_locals (entry_with (known_fence o) k.fences.ends) (own_of k f.signature))
  every = all ∙ ap (λ h. is_some (collected_locals (entry_with (known_fence o) k.fences.ends) (own_of k h))) same

  pub told_listed : (q : Proc) → set.contains g.participants q ≡ true → standing_in k (known_fence o) whole q ≡ told_of k.jobs k.node k.fences f q
  told_listed q e = told_is k f (known_fence o) whole looked every q (participant_in f q (ap (λ (h : Signature). set.contains h.participants q) (sym same) ∙ e))

  pub told_elsewhere : (q : Proc) → (home_of k.jobs q == k.node) ≡ false → standing_in k (known_fence o) whole q ≡ told_of k.jobs k.node k.fences f q
  unfolding told_of header_at
  told_elsewhere q other =
      ap (λ b. cond b (cond whole (entry_with (known_fence o) k.fences.ends q) None) (entry_in q (finite.get (known_fence o).headers (home_of k.jobs q)))) other
      ∙ ap (λ (x : Fence). entry_in q (finite.get x.headers (home_of k.jobs q))) looked
      ∙ ap (λ b. entry_in q (cond b (own_header k.jobs k.node k.fences f) (finite.get (fence_at k.fences f).headers (home_of k.jobs q)))) (sym other)

  pub header_far : (m i : ℕ) (b : Bool) → i ≡ m → (m == k.node) ≡ false → b ≡ is_some (finite.get (known_fence o).headers i) → b ≡ is_some (header_at k.jobs k.node k.fences f m)
  header_far m i b one other is = header_elsewhere k f (known_fence o) looked m b other (is ∙ ap (λ j. is_some (finite.get (known_fence o).headers j)) one)

  pub header_near : (m : ℕ) (any b : Bool) (ps : List Proc) → (m == k.node) ≡ true → any ≡ list_any (λ p. home_of k.jobs p == k.node) ps → ps ≡ in_order g.participants
      → b ≡ (any && whole) → b ≡ is_some (header_at k.jobs k.node k.fences f m)
  header_near m any b ps here some rows is =
      header_here k f (known_fence o) looked m any whole b here
      (some ∙ ap (list_any (λ p. home_of k.jobs p == k.node)) (rows ∙ ap (λ (h : Signature). in_order h.participants) same)) every is
