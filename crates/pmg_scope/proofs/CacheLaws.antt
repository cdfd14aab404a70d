-- A cache and a script, call by call.
use Rattle.std.proofs.Common.{◌≡◌, ℕ, zero, suc, Bool, true, false, cond, ◌&&◌, List, [], ◌∷◌, ◌++◌, Option, Some, None, refl, sym, ap, ◌∙◌, arith}
use Rattle.std.specs.FinMap as map
use Rattle.std.specs.Ordering.{nat_cmp}
use Rattle.std.specs.Str.{bytes_eq}
use Rattle.std.specs.Cmp.Lexicographic.{slice_cmp, nat_list_cmp_total}
use Rattle.std.proofs.lemmas.Map.Text.{is_eq-slice_cmp}
use Rattle.std.proofs.lemmas.Map.Lookups.{exact_bytes}
use Rattle.pmg_value.specs.Signatures.{Signature}
use Rattle.pmg_scope.specs.declared.scope.Scope.{Scope}
use Rattle.pmg_scope.specs.declared.scope.Reach.{Reach}
use Rattle.pmg_scope.specs.declared.scope.Reach.TheVariants as reach
use Rattle.pmg_scope.specs.Scopes.{reaches}
use Rattle.pmg_scope.specs.Scripts.{Call, Script, has_end, sealed, count_commits, commits, later_of, put_of, last_put}
use Rattle.pmg_scope.specs.Sealing.{part, part_of, next_part}
use Rattle.pmg_scope.specs.Cached.{Table, put_if}
use Rattle.pmg_scope.specs.CacheRules.{CacheNewFits, CachePutFits, CacheCommitFits, CacheEnterFits, CacheEndFits, CacheIsOne, CommitSealsNext}
use Rattle.pmg_scope.proofs.ScriptLaws.{open_commits}
use Rattle.pmg_scope.proofs.SealingLaws.{none_earlier, later_assoc}

-- ---- one more call

last_put_push : (r : Reach) (k : List ℕ) (xs : Script) (c : Call) → last_put r k (xs ++ c ∷ []) ≡ later_of (put_of r k c) (last_put r k xs)
last_put_push r k [] c = sym (none_earlier (put_of r k c))
last_put_push r k (x ∷ xs) c =
    ap (λ (y : Option (List ℕ)). later_of y (put_of r k x)) (last_put_push r k xs c) ∙ later_assoc (put_of r k c) (last_put r k xs) (put_of r k x)

-- ---- a table with one more put

under_key : (b : Bool) (value : List ℕ) (x : Option (List ℕ)) → cond b (Some value) x ≡ later_of (cond b (Some value) None) x
under_key true value x = refl
under_key false value x = refl

get-put : (m : Table) (key value q : List ℕ) → map.get (map.insert m key value) q ≡ later_of (cond (bytes_eq q key) (Some value) None) (map.get m q)
get-put m key value q =
    map.get-insert nat_list_cmp_total m key value q
    ∙ ap (λ (b : Bool). cond b (Some value) (map.get m q)) (is_eq-slice_cmp q key)
    ∙ under_key (bytes_eq q key) value (map.get m q)

get-put_if : (seen : Bool) (m : Table) (key value q : List ℕ) (x : Option (List ℕ)) → map.get m q ≡ x → map.get (put_if seen m key value) q ≡ later_of (cond (seen && bytes_eq q key) (Some value) None) x
get-put_if true m key value q x e = get-put m key value q ∙ ap (later_of (cond (bytes_eq q key) (Some value) None)) e
get-put_if false m key value q x e = e

-- ---- the calls that the next commit seals

is_commit : Call → Bool
is_commit (Call.put scope key value) = false
is_commit Call.commit = true
is_commit (Call.enter f) = false
is_commit Call.terminate = false

-- calls of which none is a commit, after a script
count_appended : (s t : Script) → count_commits t ≡ 0 → count_commits (s ++ t) ≡ count_commits s
count_appended [] t none = none
count_appended (Call.put scope key value ∷ cs) t none = count_appended cs t none
count_appended (Call.commit ∷ cs) t none = ap suc (count_appended cs t none)
count_appended (Call.enter f ∷ cs) t none = count_appended cs t none
count_appended (Call.terminate ∷ cs) t none = count_appended cs t none

part_appended : (s t : Script) → part zero t ≡ t → (n : ℕ) → n ≡ count_commits s → part n (s ++ t) ≡ part n s ++ t
unfolding part
part_appended [] t all zero h = all
part_appended [] t all (suc n) h = absurd (omega (arith, h))
part_appended (Call.put scope key value ∷ cs) t all zero h = ap (λ (ds : Script). Call.put scope key value ∷ ds) (part_appended cs t all zero h)
part_appended (Call.put scope key value ∷ cs) t all (suc n) h = part_appended cs t all (suc n) h
part_appended (Call.commit ∷ cs) t all zero h = absurd (omega (arith, h))
part_appended (Call.commit ∷ cs) t all (suc n) h = part_appended cs t all n (omega (arith, h))
part_appended (Call.enter f ∷ cs) t all zero h = ap (λ (ds : Script). Call.enter f ∷ ds) (part_appended cs t all zero h)
part_appended (Call.enter f ∷ cs) t all (suc n) h = part_appended cs t all (suc n) h
part_appended (Call.terminate ∷ cs) t all zero h = ap (λ (ds : Script). Call.terminate ∷ ds) (part_appended cs t all zero h)
part_appended (Call.terminate ∷ cs) t all (suc n) h = part_appended cs t all (suc n) h

-- the next commit seals them too
pub next_appended : (s t : Script) → count_commits t ≡ 0 → part zero t ≡ t → next_part (s ++ t) ≡ next_part s ++ t
next_appended s t none all = ap (λ (n : ℕ). part n (s ++ t)) (count_appended s t none) ∙ part_appended s t all (count_commits s) refl

alone_sealed : (c : Call) → is_commit c ≡ false → (count_commits (c ∷ []) ≡ 0) × (part zero (c ∷ []) ≡ c ∷ [])
unfolding part is_commit
alone_sealed (Call.put scope key value) e = (refl, refl)
alone_sealed Call.commit e = absurd cc
alone_sealed (Call.enter f) e = (refl, refl)
alone_sealed Call.terminate e = (refl, refl)

next_push : (s : Script) (c : Call) → is_commit c ≡ false → next_part (s ++ c ∷ []) ≡ next_part s ++ c ∷ []
next_push s c e = next_appended s (c ∷ []) (alone_sealed c e).0 (alone_sealed c e).1

count_commit : (s : Script) → count_commits (s ++ Call.commit ∷ []) ≡ suc (count_commits s)
count_commit [] = refl
count_commit (Call.put scope key value ∷ cs) = count_commit cs
count_commit (Call.commit ∷ cs) = ap suc (count_commit cs)
count_commit (Call.enter f ∷ cs) = count_commit cs
count_commit (Call.terminate ∷ cs) = count_commit cs

part_commit : (s : Script) (n : ℕ) → n ≡ suc (count_commits s) → part n (s ++ Call.commit ∷ []) ≡ []
unfolding part
part_commit s zero h = absurd (omega (arith, h))
part_commit [] (suc n) h = refl
part_commit (Call.put scope key value ∷ cs) (suc n) h = part_commit cs (suc n) h
part_commit (Call.commit ∷ cs) (suc n) h = part_commit cs n (omega (arith, h))
part_commit (Call.enter f ∷ cs) (suc n) h = part_commit cs (suc n) h
part_commit (Call.terminate ∷ cs) (suc n) h = part_commit cs (suc n) h

next_commit : (s : Script) → next_part (s ++ Call.commit ∷ []) ≡ []
next_commit s = part_commit s (count_commits (s ++ Call.commit ∷ [])) (count_commit s)

part_sealed : (s : Script) (n : ℕ) → n ≡ count_commits s → part n (s ++ Call.commit ∷ []) ≡ part n s
unfolding part
part_sealed [] zero h = refl
part_sealed [] (suc n) h = absurd (omega (arith, h))
part_sealed (Call.put scope key value ∷ cs) zero h = ap (λ (ds : Script). Call.put scope key value ∷ ds) (part_sealed cs zero h)
part_sealed (Call.put scope key value ∷ cs) (suc n) h = part_sealed cs (suc n) h
part_sealed (Call.commit ∷ cs) zero h = absurd (omega (arith, h))
part_sealed (Call.commit ∷ cs) (suc n) h = part_sealed cs n (omega (arith, h))
part_sealed (Call.enter f ∷ cs) zero h = ap (λ (ds : Script). Call.enter f ∷ ds) (part_sealed cs zero h)
part_sealed (Call.enter f ∷ cs) (suc n) h = part_sealed cs (suc n) h
part_sealed (Call.terminate ∷ cs) zero h = ap (λ (ds : Script). Call.terminate ∷ ds) (part_sealed cs zero h)
part_sealed (Call.terminate ∷ cs) (suc n) h = part_sealed cs (suc n) h

has_end_commit : (s : Script) → has_end (s ++ Call.commit ∷ []) ≡ has_end s
has_end_commit [] = refl
has_end_commit (Call.put scope key value ∷ cs) = has_end_commit cs
has_end_commit (Call.commit ∷ cs) = has_end_commit cs
has_end_commit (Call.enter f ∷ cs) = has_end_commit cs
has_end_commit (Call.terminate ∷ cs) = refl

-- ---- the rules

pub new_fits : CacheNewFits
unfolding part
new_fits reach.Own q = map.get-empty (slice_cmp nat_cmp) q
new_fits reach.Near q = map.get-empty (slice_cmp nat_cmp) q
new_fits reach.Far q = map.get-empty (slice_cmp nat_cmp) q

put_unsealed : (r : Reach) (m : Table) (s : Script) (scope : Scope) (key value q : List ℕ) → map.get m q ≡ last_put r q (next_part s)
    → map.get (put_if (reaches scope r) m key value) q ≡ last_put r q (next_part (s ++ Call.put scope key value ∷ []))
unfolding is_commit
put_unsealed r m s scope key value q e =
    get-put_if (reaches scope r) m key value q _ e
    ∙ sym (ap (last_put r q) (next_push s (Call.put scope key value) refl) ∙ last_put_push r q (next_part s) (Call.put scope key value))

pub put_fits : CachePutFits
put_fits c s scope key value fits reach.Own q =
    get-put_if (reaches scope reach.Own) c.own key value q _ (fits reach.Own q) ∙ sym (last_put_push reach.Own q s (Call.put scope key value))
put_fits c s scope key value fits reach.Near q = put_unsealed reach.Near c.near s scope key value q (fits reach.Near q)
put_fits c s scope key value fits reach.Far q = put_unsealed reach.Far c.far s scope key value q (fits reach.Far q)

pub commit_fits : CacheCommitFits
commit_fits c s fits reach.Own q = fits reach.Own q ∙ sym (last_put_push reach.Own q s Call.commit)
commit_fits c s fits reach.Near q = map.get-empty (slice_cmp nat_cmp) q ∙ sym (ap (last_put reach.Near q) (next_commit s))
commit_fits c s fits reach.Far q = map.get-empty (slice_cmp nat_cmp) q ∙ sym (ap (last_put reach.Far q) (next_commit s))

enter_unsealed : (r : Reach) (m : Table) (s : Script) (f : Signature) (q : List ℕ) → map.get m q ≡ last_put r q (next_part s) → map.get m q ≡ last_put r q (next_part (s ++ Call.enter f ∷ []))
unfolding is_commit
enter_unsealed r m s f q e = e ∙ sym (ap (last_put r q) (next_push s (Call.enter f) refl) ∙ last_put_push r q (next_part s) (Call.enter f))

pub enter_fits : CacheEnterFits
enter_fits c s f fits reach.Own q = fits reach.Own q ∙ sym (last_put_push reach.Own q s (Call.enter f))
enter_fits c s f fits reach.Near q = enter_unsealed reach.Near c.near s f q (fits reach.Near q)
enter_fits c s f fits reach.Far q = enter_unsealed reach.Far c.far s f q (fits reach.Far q)

end_unsealed : (r : Reach) (m : Table) (s : Script) (q : List ℕ) → map.get m q ≡ last_put r q (next_part s) → map.get m q ≡ last_put r q (next_part (s ++ Call.terminate ∷ []))
unfolding is_commit
end_unsealed r m s q e = e ∙ sym (ap (last_put r q) (next_push s Call.terminate refl) ∙ last_put_push r q (next_part s) Call.terminate)

pub end_fits : CacheEndFits
end_fits c s fits reach.Own q = fits reach.Own q ∙ sym (last_put_push reach.Own q s Call.terminate)
end_fits c s fits reach.Near q = end_unsealed reach.Near c.near s q (fits reach.Near q)
end_fits c s fits reach.Far q = end_unsealed reach.Far c.far s q (fits reach.Far q)

pub cache_is_one : CacheIsOne
cache_is_one c d s a b =
    let own = map.same_map nat_list_cmp_total exact_bytes c.own d.own (λ q. a reach.Own q ∙ sym (b reach.Own q)) in
    let near = map.same_map nat_list_cmp_total exact_bytes c.near d.near (λ q. a reach.Near q ∙ sym (b reach.Near q)) in
    let far = map.same_map nat_list_cmp_total exact_bytes c.far d.far (λ q. a reach.Far q ∙ sym (b reach.Far q)) in
    λ i. record { own = own i; near = near i; far = far i }

pub commit_seals_next : CommitSealsNext
unfolding part_of
commit_seals_next s e =
    let same : sealed (s ++ Call.commit ∷ []) ≡ s ++ Call.commit ∷ [] = rw (has_end_commit s, e) refl in
    ap (part (commits s)) same ∙ ap (λ (n : ℕ). part n (s ++ Call.commit ∷ [])) (open_commits s e) ∙ part_sealed s (count_commits s) refl
