-- How the sets go on with the host's script, and who reads them.
use Rattle.std.proofs.Common.{◌≡◌, inl, inr, ℕ, suc, ◌+◌, ◌<◌, Bool, true, false, cond, ◌&&◌, ◌||◌, nat_lt, nat_le, List, [], ◌∷◌, ◌++◌, length, map, Option, Some, None, refl, sym, ap, subst, ◌∙◌, arith}
use Rattle.std.specs.FinMap as finite
use Rattle.std.specs.FinSet as set
use Rattle.std.specs.Option.{option_map}
use Rattle.std.specs.Str.{bytes_eq}
use Rattle.std.specs.Ordering.{nat_cmp}
use Rattle.std.specs.Cmp.Lexicographic.{slice_cmp, nat_list_cmp_total}
use Rattle.std.proofs.lemmas.Bool.{false≢true, false_from_ne_true, and_parts, and_from, or_cases, or_left, leb-true, lt-ltb, le-leb}
use Rattle.std.proofs.lemmas.Cmp.{nat_cmp_total}
use Rattle.std.proofs.lemmas.Map.Text.{is_eq-slice_cmp}
use Rattle.std.proofs.lemmas.Slice.Eq.{bytes_eq-Decides}
use Rattle.pmg_value.specs.Plain.{Plain}
use Rattle.pmg_scope.specs.Scopes.{reaches}
use Rattle.pmg_scope.specs.declared.scope.Scope.TheVariants as scopes
use Rattle.pmg_scope.specs.declared.scope.Reach.{Reach}
use Rattle.pmg_scope.specs.declared.scope.Reach.TheVariants as reach
use Rattle.pmg_scope.specs.Cached.{global_put}
use Rattle.pmg_scope.specs.Scripts.{Call, Script, has_end, commits, last_put, value_at}
use Rattle.pmg_scope.specs.Sealing.{part, next_part, IsSealed, NoneSealed}
use Rattle.pmg_scope.proofs.SealingLaws.{value_sealed, value_none, sealed_or_none}
use Rattle.pmg_commit.specs.Honest.{known_from}
use Rattle.pmg_commit.specs.Knowledge.{knowledge_of}
use Rattle.pmg_commit.specs.Levels.{level}
use Rattle.pmg_commit.specs.LevelLaws.{level_unique}
use Rattle.pmg_commit.proofs.Rules.{numbers_are_between}
use Rattle.pmg_commit.specs.Sealed.{Stamp, Stamps, Sealed, piece_at}
use Rattle.pmg_commit.specs.SealerRules.{FitsBatch, FitsStamps, FitsSealer}
use Rattle.pmg_commit.proofs.HonestLaws.{honest_reading}
use Rattle.pmg_commit.proofs.SealerLaws.{stamp_over, get-stamped, new_fits, seal_fits, put_seals_nothing, pieces_are_honest}
use Rattle.pmg_pset.specs.Changes.{Change, script_of}
use Rattle.pmg_pset.specs.Members.{proc_array, proc_bytes, no_members, live_of}
use Rattle.pmg_pset.specs.Sets.{host, set_changed, live_in, live_at}
use Rattle.pmg_pset.specs.Rules.{NewSetsFit, ChangeFits, ChangeIsSeen, DefinedIsLive, DeletedIsNot, ReadsAreSets, OnePieceIsEnough}
use Rattle.pmg_pset.proofs.MemberLemmas.{longer}

-- ---- one change more

abbrev put_call : Change → Call
put_call c = Call.put scopes.Global c.name c.bytes

-- the last change's calls stand after those of the others
script_more : (cs : List Change) (c : Change) → script_of (cs ++ c ∷ []) ≡ (script_of cs ++ put_call c ∷ []) ++ Call.commit ∷ []
script_more [] c = refl
script_more (d ∷ cs) c = ap (λ (s : Script). put_call d ∷ Call.commit ∷ s) (script_more cs c)

never_ends : (cs : List Change) (c : Change) → has_end (script_of cs ++ put_call c ∷ []) ≡ false
never_ends [] c = refl
never_ends (d ∷ cs) c = never_ends cs c

-- a commit seals the one put after the commit before
one_put : (cs : List Change) (c : Change) → next_part (script_of cs ++ put_call c ∷ []) ≡ put_call c ∷ []
unfolding part
one_put [] c = refl
one_put (d ∷ cs) c = one_put cs c

-- what the one put has under each key
get_put : (c : Change) (key : List ℕ) (r : Reach) → reaches scopes.Global r ≡ true → finite.get (finite.insert (finite.empty {R = slice_cmp nat_cmp}) c.name c.bytes) key ≡ last_put r key (put_call c ∷ [])
get_put c key r seen =
    finite.get-insert nat_list_cmp_total finite.empty c.name c.bytes key
    ∙ (λ i. cond (is_eq-slice_cmp key c.name i) (Some c.bytes) (finite.get-empty {X = List ℕ} (slice_cmp nat_cmp) key i))

pub new_sets_fit : NewSetsFit
new_sets_fit = new_fits host

pub change_fits : ChangeFits
change_fits z cs c fits =
    let before = script_of cs ++ put_call c ∷ [] in
    let sealed = one_put cs c in
    let batch : FitsBatch (global_put c.name c.bytes) before = record {
      near = λ key. get_put c key reach.Near refl ∙ ap (last_put reach.Near key) (sym sealed);
      far = λ key. get_put c key reach.Far refl ∙ ap (last_put reach.Far key) (sym sealed);
    } in
    subst (FitsSealer (set_changed z c.name c.bytes)) (sym (script_more cs c))
    (seal_fits z (global_put c.name c.bytes) before (never_ends cs c) batch (put_seals_nothing z (script_of cs) scopes.Global c.name c.bytes fits))

-- ---- what a change leaves

over_one : (n : ℕ) (here : Bool) (bytes : List ℕ) (old : Option Stamp) → live_in (stamp_over n (cond here (Some bytes) None) old) ≡ cond here (live_of bytes) (live_in old)
over_one n true bytes old = refl
over_one n false bytes old = refl

get_one : (name bytes key : List ℕ) → finite.get (finite.insert (finite.empty {R = slice_cmp nat_cmp}) name bytes) key ≡ cond (bytes_eq key name) (Some bytes) None
get_one name bytes key =
    finite.get-insert nat_list_cmp_total finite.empty name bytes key
    ∙ (λ i. cond (is_eq-slice_cmp key name i) (Some bytes) (finite.get-empty {X = List ℕ} (slice_cmp nat_cmp) key i))

pub change_is_seen : ChangeIsSeen
change_is_seen z name bytes q =
    ap live_in (get-stamped (suc z.level) (global_put name bytes).far z.far q)
    ∙ ap (λ (o : Option (List ℕ)). live_in (stamp_over (suc z.level) o (finite.get z.far q))) (get_one name bytes q)
    ∙ over_one (suc z.level) (bytes_eq q name) bytes (finite.get z.far q)

-- the name of a change itself
own_name : (z : Sealed) (name bytes : List ℕ) → live_at (set_changed z name bytes) name ≡ live_of bytes
own_name z name bytes =
    change_is_seen z name bytes name ∙ ap (λ (b : Bool). cond b (live_of bytes) (live_at z name)) ((bytes_eq-Decides name name).1 refl)

pub defined_is_live : DefinedIsLive
defined_is_live z name p ps =
    let more : 6 < length (proc_bytes (p ∷ ps)) = longer (proc_array (p ∷ ps)) (Plain.proc p) (map Plain.proc ps) refl (omega arith) in
    let differs : bytes_eq (proc_bytes (p ∷ ps)) no_members ≡ false =
    false_from_ne_true _ (λ h. let short = ap length ((bytes_eq-Decides (proc_bytes (p ∷ ps)) no_members).0 h) in absurd (omega (arith, short, more))) in
    own_name z name (proc_bytes (p ∷ ps)) ∙ ap (λ (b : Bool). cond b None (Some (proc_bytes (p ∷ ps)))) differs

pub deleted_is_not : DeletedIsNot
deleted_is_not z name = own_name z name no_members ∙ ap (λ (b : Bool). cond b None (Some no_members)) ((bytes_eq-Decides no_members no_members).1 refl)

-- ---- reads

-- the stamp under a name is the value that the last commit left
stamp_value : (m : Stamps) (s : Script) (r : Reach) (name : List ℕ) → FitsStamps m s r → value_at s (commits s) r name ≡ option_map (λ stamp. stamp.bytes) (finite.get m name)
stamp_value m s r name fits =
    elim (sealed_or_none r name s (commits s)) [
      | inl found ↦
          value_sealed r name s _ found.0 found.1 found.2
          ∙ ap (option_map (λ (stamp : Stamp). stamp.bytes)) (sym ((fits name (record { number = found.0; bytes = found.1 })).1 found.2))
      | inr none ↦ value_none r name s _ none ∙ none_there (finite.get m name) (λ stamp is. not_sealed stamp.number stamp.bytes none ((fits name stamp).0 is))
    ]
  where
    not_none : {A : Type 0} {x : A} → ◌≡◌ {A = Option A} None (Some x) → ⊥
    not_none h = absurd cc

    not_sealed : (j : ℕ) (bytes : List ℕ) → NoneSealed s r name (commits s) → IsSealed s r name (commits s) j bytes → ⊥
    not_sealed j bytes none h = not_none (sym (none j h.some h.within) ∙ h.put)

    none_there : (o : Option Stamp) → ((stamp : Stamp) → o ≡ Some stamp → ⊥) → None ≡ option_map (λ (stamp : Stamp). stamp.bytes) o
    none_there None h = refl
    none_there (Some stamp) h = absurd (h stamp refl)

pub reads_are_sets : ReadsAreSets
reads_are_sets z s cs fits honest same name =
    honest_reading s reach.Far cs honest name ∙ ap (λ (n : ℕ). value_at s n reach.Far name) (same ∙ fits.level) ∙ stamp_value z.far s reach.Far name fits.far

-- the piece of all commits has just their numbers
whole_numbers : (z : Sealed) (n : ℕ) → set.contains (known_from (piece_at z 0 reach.Far ∷ [])).numbers n ≡ ((nat_lt 0 n && nat_le n z.level) || false)
unfolding knowledge_of
whole_numbers z n =
    set.contains-union nat_cmp_total _ _ n ∙ (λ i. numbers_are_between 0 z.level n i || set.contains-empty nat_cmp n i)

whole_level : (z : Sealed) → level (known_from (piece_at z 0 reach.Far ∷ [])).numbers ≡ z.level
whole_level z =
    sym (level_unique (known_from (piece_at z 0 reach.Far ∷ [])).numbers z.level (
      λ i some most. whole_numbers z i ∙ or_left (nat_lt 0 i && nat_le i z.level) false (and_from (nat_lt 0 i) (nat_le i z.level) (lt-ltb 0 i some) (le-leb i z.level most)),
      false_from_ne_true _ (λ h. elim (or_cases (nat_lt 0 (z.level + 1) && nat_le (z.level + 1) z.level) false (sym (whole_numbers z (z.level + 1)) ∙ h)) [
        | inl within ↦
            let parts = and_parts (nat_lt 0 (z.level + 1)) (nat_le (z.level + 1) z.level) within in
            let most = leb-true (z.level + 1) z.level parts.1 in
            absurd (omega (arith, most))
        | inr none ↦ absurd (false≢true none)
      ]),
    ))

pub one_piece_is_enough : OnePieceIsEnough
one_piece_is_enough z s fits name =
    reads_are_sets z s (piece_at z 0 reach.Far ∷ []) fits (pieces_are_honest z s 0 reach.Far fits refl, tt) (whole_level z) name
