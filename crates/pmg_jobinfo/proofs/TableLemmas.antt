-- What a table of namespaces has at a name, and what is registered when one is added to it.
use Rattle.std.proofs.Common.{◌≡◌, ℕ, ◌+◌, ◌<◌, ◌≤◌, Bool, List, [], true, false, cond, length, refl, sym, ap, subst, ◌∙◌, arith}
use Rattle.std.specs.Prelude.{Option, Some, IfSome}
use Rattle.std.specs.declared.cmp.Ordering.{Ordering}
use Rattle.std.specs.Ordering.{nat_cmp, eq_by_cmp}
use Rattle.std.specs.Cmp.{Equal-is}
use Rattle.std.specs.Cmp.Lexicographic.{slice_cmp, nat_list_cmp_total}
use Rattle.std.specs.BTreeMap.{is_at}
use Rattle.std.proofs.lemmas.Map.Lookups.{exact_bytes}
use Rattle.std.specs.FinMap as finite
use Rattle.pmg_value.specs.Rows.{AreRising, map_of}
use Rattle.pmg_value.proofs.RowLemmas.{at_key, get-map_of, len_rising, rows_with, same_rows}
use Rattle.pmg_jobinfo.specs.Jobs.{Jobs, AreJobs, IsSpace, jobs_of, registered}
use Rattle.pmg_jobinfo.specs.declared.registry.TheConstants.{MAX_SPACES}

abbrev names_cmp : List ℕ → List ℕ → Ordering
names_cmp = slice_cmp nat_cmp

abbrev Table : Type 0
Table = List (List ℕ × List ℕ)

abbrev look : Table → List ℕ → Option (List ℕ)
look es q = at_key names_cmp q es

-- the homes of the namespace, as the table has them
pub get_table : (es : Table) (q : List ℕ) → look es q ≡ finite.get (map_of {R = names_cmp} es) q
get_table es q = sym (get-map_of nat_list_cmp_total es q)

-- tables that answer alike hold the same namespaces
pub same_spaces : (names : List (List ℕ)) (es fs : Table) (jobs : Jobs) → ((q : List ℕ) → look es q ≡ look fs q) → jobs_of names fs ≡ jobs → jobs_of names es ≡ jobs
same_spaces names es fs jobs same is = ap (λ (spaces : finite.FinMap names_cmp (List ℕ)). record { nodes = names; spaces = spaces }) (same_rows nat_list_cmp_total exact_bytes (λ h. h) es fs same) ∙ is

-- what holds of each space holds of one that is there
pub space_at : (jobs : Jobs) (name homes : List ℕ) → AreJobs jobs → Some homes ≡ finite.get jobs.spaces name → IsSpace (length jobs.nodes) name homes
space_at jobs name homes are is = subst (λ (o : Option (List ℕ)). IfSome o (IsSpace (length jobs.nodes) name)) (sym is) (are.spaces name)

-- the table of a group with one namespace more
pub jobs_with : (names : List (List ℕ)) (old new : Table) (jobs : Jobs) (name homes given : List ℕ) → jobs_of names old ≡ jobs → homes ≡ given
    → ((q : List ℕ) → look new q ≡ cond (is_at (names_cmp name) q) (Some homes) (look old q)) → jobs_of names new ≡ registered jobs name given
jobs_with names old new jobs name homes given is same put =
    ap (λ (spaces : finite.FinMap names_cmp (List ℕ)). record { nodes = names; spaces = spaces }) (rows_with nat_list_cmp_total exact_bytes (λ h. h) old new name homes put)
    ∙ (λ i. registered (is i) name (same i))

-- a registration keeps what holds of all jobs
one_more : (b : Bool) (n : ℕ) → n < MAX_SPACES → cond b n (n + 1) ≤ MAX_SPACES
one_more true n room = omega (arith, room)
one_more false n room = omega (arith, room)

pub jobs_registered : (jobs : Jobs) (name homes : List ℕ) → AreJobs jobs → IsSpace (length jobs.nodes) name homes → finite.len jobs.spaces < MAX_SPACES → AreJobs (registered jobs name homes)
jobs_registered jobs name homes are space room = record {
  some = are.some;
  few = are.few;
  few_spaces = subst (λ n. n ≤ MAX_SPACES) (sym (finite.len-insert nat_list_cmp_total jobs.spaces name homes)) (one_more (finite.contains_key jobs.spaces name) (finite.len jobs.spaces) room);
  spaces = λ q.
      subst (λ (o : Option (List ℕ)). IfSome o (IsSpace (length jobs.nodes) q)) (sym (finite.get-insert nat_list_cmp_total jobs.spaces name homes q))
      (elim (eq_by_cmp names_cmp q name) as (λ b. eq_by_cmp names_cmp q name ≡ b → IfSome (cond b (Some homes) (finite.get jobs.spaces q)) (IsSpace (length jobs.nodes) q)) [
        | true ↦ λ t. subst (λ (n : List ℕ). IsSpace (length jobs.nodes) n homes) (sym (exact_bytes q name ((Equal-is _).0 t))) space
        | false ↦ λ t. are.spaces q
      ] refl);
}

-- there are as many namespaces as entries, whose names rise
pub len_of_table : (es : Table) → AreRising names_cmp es → finite.len (map_of {R = names_cmp} es) ≡ length es
len_of_table es rising = len_rising nat_list_cmp_total (λ h. h) es rising

-- a group with no namespace yet
pub jobs_opened : (names : List (List ℕ)) (es : Table) → es ≡ [] → 0 < length names → length names ≤ 64 → AreJobs (jobs_of names es)
jobs_opened names es none some few = record {
  some = some;
  few = few;
  few_spaces = subst (λ n. n ≤ MAX_SPACES) (sym (ap (λ (t : Table). finite.len (map_of {R = names_cmp} t)) none ∙ finite.len-empty names_cmp (List ℕ))) (omega arith);
  spaces = λ q.
      subst (λ (t : Table). IfSome (finite.get (map_of {R = names_cmp} t) q) (IsSpace (length names) q)) (sym none)
      (subst (λ (o : Option (List ℕ)). IfSome o (IsSpace (length names) q)) (sym (finite.get-empty {X = List ℕ} names_cmp q)) tt);
}

-- a group with one namespace has few
pub one_space : (name homes : List ℕ) → finite.len (finite.insert {R = names_cmp} finite.empty name homes) ≤ MAX_SPACES
one_space name homes =
    subst (λ n. n ≤ MAX_SPACES) (sym (finite.len-insert nat_list_cmp_total finite.empty name homes))
    (one_more (finite.contains_key {X = List ℕ} finite.empty name) (finite.len {X = List ℕ} finite.empty) (subst (λ n. n < MAX_SPACES) (sym (finite.len-empty names_cmp (List ℕ))) (omega arith)))
