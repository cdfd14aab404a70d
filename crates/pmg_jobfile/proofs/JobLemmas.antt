-- Jobs, from what describes them.
use Rattle.std.proofs.Common.{◌≡◌, ℕ, ◌+◌, ◌<◌, ◌≤◌, Some, Result, Ok, Err, Bool, true, false, cond, List, [], ◌∷◌, get_or, drop, length, refl, sym, ap, ◌∙◌}
use Rattle.std.specs.Option.{option_map}
use Rattle.std.specs.Prelude.{option_and_then}
use Rattle.std.proofs.lemmas.List.{at_drop_more, at_drop_all}
use Rattle.serde_json.specs.Data.{Data}
use Rattle.pmg_value.specs.declared.refusal.Refusal.{Refusal}
use Rattle.pmg_value.specs.CheckOrder.{first_in, first_of, check_order}
use Rattle.pmg_jobinfo.specs.Jobs.{Jobs, registered}
use Rattle.pmg_jobinfo.specs.Refusing.{register_cause}
use Rattle.pmg_jobfile.specs.Described.{Space, Described, judged, next, with_space, with_spaces}
use Rattle.pmg_jobfile.specs.Reading.{json_nodes, spaces_in, described_in, job_due}

-- what is described by names and namespaces that are read
pub described : (d : Data) (nodes : List (List ℕ)) (spaces : List Space) (count : ℕ) → json_nodes d ≡ Some nodes → count ≡ length nodes → spaces_in count d ≡ Some spaces →
    job_due (described_in d) ≡ judged (record { nodes = nodes; spaces = spaces })
described d nodes spaces count ns same ss =
    ap job_due (
    ap (option_and_then (λ names. option_map (made names) (spaces_in (length names) d))) ns
    ∙ ap (option_map (made nodes)) (ap (λ n. spaces_in n d) (sym same) ∙ ss))
  where
    made : List (List ℕ) → List Space → Described
    made names list = record { nodes = names; spaces = list }

-- the first cause does not depend on the answer
pub moves_err : {X Y : Type 0} (es : List Refusal) (has_cause : Refusal → Bool) (x : X) (y : Y) (e : Refusal) → first_in es has_cause x ≡ Err e → first_in es has_cause y ≡ Err e
moves_err [] has_cause x y e h = absurd cc
moves_err {X = X} {Y = Y} (c ∷ cs) has_cause x y e h = by_test (has_cause c) (moves_err cs has_cause x y e) h
  where
    one : ◌≡◌ {A = Result X Refusal} (Err c) (Err e) → c ≡ e
    one same = cc

    by_test : (b : Bool) → (first_in cs has_cause x ≡ Err e → first_in cs has_cause y ≡ Err e) → cond b (Err c) (first_in cs has_cause x) ≡ Err e → cond b (Err c) (first_in cs has_cause y) ≡ Err e
    by_test true rest same = ap Err (one same)
    by_test false rest later = rest later

pub moves_ok : {X Y : Type 0} (es : List Refusal) (has_cause : Refusal → Bool) (x : X) (y : Y) (z : X) → first_in es has_cause x ≡ Ok z → first_in es has_cause y ≡ Ok y
moves_ok [] has_cause x y z h = refl
moves_ok {X = X} {Y = Y} (c ∷ cs) has_cause x y z h = by_test (has_cause c) (moves_ok cs has_cause x y z) h
  where
    by_test : (b : Bool) → (first_in cs has_cause x ≡ Ok z → first_in cs has_cause y ≡ Ok y) → cond b (Err c) (first_in cs has_cause x) ≡ Ok z → cond b (Err c) (first_in cs has_cause y) ≡ Ok y
    by_test true rest same = absurd cc
    by_test false rest later = rest later

-- a namespace is that of its parts
pub is_of : (n m h k : List ℕ) (s : Space) → n ≡ m → h ≡ k → ◌≡◌ {A = Space} (record { name = m; homes = k }) s → ◌≡◌ {A = Space} (record { name = n; homes = h }) s
is_of n m h k s names homes is = ap (λ x. record { name = x; homes = h }) names ∙ ap (λ x. record { name = m; homes = x }) homes ∙ is

-- what a registration answers, the jobs with the namespace are answered with
pub registers : (jobs : Jobs) (n h : List ℕ) (s : Space) (u : Unit {0}) → ◌≡◌ {A = Space} (record { name = n; homes = h }) s →
    first_of (register_cause jobs n h) (tt {0}) ≡ Ok u → with_space jobs s ≡ Ok (registered jobs n h)
registers jobs n h s u is given = ap (with_space jobs) (sym is) ∙ moves_ok check_order (register_cause jobs n h) tt (registered jobs n h) u given

pub refuses : (jobs : Jobs) (n h : List ℕ) (s : Space) (e : Refusal) → ◌≡◌ {A = Space} (record { name = n; homes = h }) s →
    first_of (register_cause jobs n h) (tt {0}) ≡ Err e → with_space jobs s ≡ Err e
refuses jobs n h s e is given = ap (with_space jobs) (sym is) ∙ moves_err check_order (register_cause jobs n h) tt (registered jobs n h) e given

module _ (jobs : Jobs) (ss : List Space) (i : ℕ) (due : Result Jobs Refusal) (inv : with_spaces jobs (drop i ss) ≡ due) where
  step : (s : Space) → i < length ss → s ≡ get_or ss i s → with_spaces jobs (drop i ss) ≡ next (λ more. with_spaces more (drop (i + 1) ss)) (with_space jobs s)
  unfolding with_spaces
  step s lt is =
      at_drop_more (λ zs. with_spaces jobs zs) ss i s lt
      ∙ ap (λ z. next (λ more. with_spaces more (drop (i + 1) ss)) (with_space jobs z)) (sym is)

  -- a namespace that is registered
  pub space_more : (s : Space) (after : Jobs) → i < length ss → s ≡ get_or ss i s → with_space jobs s ≡ Ok after → with_spaces after (drop (i + 1) ss) ≡ due
  space_more s after lt is h = sym (step s lt is ∙ ap (next (λ more. with_spaces more (drop (i + 1) ss))) h) ∙ inv

  -- a namespace that is refused
  pub space_bad : (s : Space) (e : Refusal) → i < length ss → s ≡ get_or ss i s → with_space jobs s ≡ Err e → due ≡ Err e
  space_bad s e lt is h = sym inv ∙ (step s lt is ∙ ap (next (λ more. with_spaces more (drop (i + 1) ss))) h)

  -- all are registered
  pub all_spaces : length ss ≤ i → due ≡ Ok jobs
  unfolding with_spaces
  all_spaces le = sym inv ∙ at_drop_all (λ zs. with_spaces jobs zs) ss i le
