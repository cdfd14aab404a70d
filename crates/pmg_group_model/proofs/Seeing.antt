-- What a get sees is what one commit of the other process left.
use Rattle.std.proofs.Common.{◌≡◌, ◌≤◌, ℕ, Bool, true, false, ◌==◌, cond, List, ◌++◌, Option, Some, None, is_some, refl, sym, ap, ◌∙◌, arith}
use Rattle.std.specs.Option.{option_map}
use Rattle.std.proofs.lemmas.Bool.Decides.{nat_tests}
use Rattle.pmg_value.specs.Names.{is_reserved}
use Rattle.pmg_value.specs.Spelling.{spelling}
use Rattle.pmg_scope.specs.Scripts.{Script, commits, value_at, term_key}
use Rattle.pmg_scope.specs.declared.scope.Reach.TheVariants as reach
use Rattle.pmg_scope.proofs.ScriptLaws.{past_values_stay}
use Rattle.pmg_commit.specs.Data.{level_at, read_at}
use Rattle.pmg_jobinfo.specs.Jobs.{Jobs, home_of}
use Rattle.pmg_jobinfo.specs.Reserved.{reserved_value}
use Rattle.pmg_fence.specs.Rules.{Scripts}
use Rattle.pmg_get.specs.Gets.{Seen, Outcome, resolve}
use Rattle.pmg_get.specs.declared.view.Mode.{Mode}
use Rattle.pmg_get.specs.declared.view.Mode.TheVariants as modes
use Rattle.pmg_store.proofs.HonestDataLaws.{honest_data_reads}
use Rattle.pmg_node_model.specs.Fitting.{Fits}
use Rattle.pmg_node_model.specs.Holdings.{Get, NodeState, seen_of, answer_in}
use Rattle.pmg_group_model.specs.Laws.{seen_at}

pub seen_alike : (jobs : Jobs) (id : ℕ) (nears fars others_near others_far : List ℕ → Option (List ℕ)) (get : Get)
    → (home_of jobs get.target ≡ id → (key : List ℕ) → nears key ≡ others_near key) → ((key : List ℕ) → fars key ≡ others_far key)
    → seen_of jobs id nears fars get ≡ seen_of jobs id others_near others_far get
unfolding seen_of
seen_alike jobs id nears fars others_near others_far get near far = by_tests (is_reserved get.key) (home_of jobs get.target == id) refl
  where
    is_home : (m : ℕ) → (m == id) ≡ true → m ≡ id
    is_home m e = grind (arith, nat_tests)

    by_tests : (b c : Bool) → (home_of jobs get.target == id) ≡ c
        → cond b (Seen.reserved (option_map spelling (reserved_value jobs id get.target get.key))) (cond c (Seen.local (nears get.key) (fars get.key) (is_some (nears term_key))) (Seen.remote (fars get.key) (is_some (fars term_key))))
        ≡ cond b (Seen.reserved (option_map spelling (reserved_value jobs id get.target get.key))) (cond c (Seen.local (others_near get.key) (others_far get.key) (is_some (others_near term_key))) (Seen.remote (others_far get.key) (is_some (others_far term_key))))
    by_tests true c is = refl
    by_tests false true is =
        let same = near (is_home (home_of jobs get.target) is) in
        λ i. Seen.local (same get.key i) (far get.key i) (is_some (same term_key i))
    by_tests false false is = λ i. Seen.remote (far get.key i) (is_some (far term_key i))

-- what a get sees at a node is what the target's commit left whose number is the level there
pub answer_sees : (jobs : Jobs) (scripts : Scripts) (id : ℕ) (h : NodeState) → Fits jobs scripts id h → (get : Get) (mode : Mode)
    → answer_in jobs id h get mode ≡ resolve (seen_at jobs id (scripts get.target) (level_at h.far get.target) get) mode
answer_sees jobs scripts id h fits get mode =
    let q = get.target in
    let s = scripts q in
    ap (λ (x : Seen). resolve x mode)
    (seen_alike jobs id (read_at h.near q) (read_at h.far q) (value_at s (level_at h.far q) reach.Near) (value_at s (level_at h.far q) reach.Far) get
    (λ home key.
    let own = fits.own q home in
    honest_data_reads s reach.Near q h.near own.near_honest key ∙ ap (λ n. value_at s n reach.Near key) (own.near_level ∙ sym own.far_level))
    (λ key. honest_data_reads s reach.Far q h.far (fits.far q) key))

-- what an earlier commit left stays
pub seen_grown : (jobs : Jobs) (id : ℕ) (s later : Script) (m : ℕ) (get : Get) → m ≤ commits s → seen_at jobs id (s ++ later) m get ≡ seen_at jobs id s m get
seen_grown jobs id s later m get made =
    seen_alike jobs id (value_at (s ++ later) m reach.Near) (value_at (s ++ later) m reach.Far) (value_at s m reach.Near) (value_at s m reach.Far) get
    (λ home key. past_values_stay s later m reach.Near key made) (λ key. past_values_stay s later m reach.Far key made)

-- a get that looks only at what its node holds is answered at once
pub now_answers : (x : Seen) → resolve x modes.Now ≡ Outcome.parks → ⊥
unfolding resolve
now_answers (Seen.reserved None) e = cc
now_answers (Seen.reserved (Some v)) e = cc
now_answers (Seen.own None) e = cc
now_answers (Seen.own (Some v)) e = cc
now_answers (Seen.local (Some v) other ended) e = cc
now_answers (Seen.local None (Some v) ended) e = cc
now_answers (Seen.local None None ended) e = cc
now_answers (Seen.remote None ended) e = cc
now_answers (Seen.remote (Some v) ended) e = cc
