-- What own processes sealed, and what is known of them, after a commit.
use Rattle.std.proofs.Common.{◌≡◌, ◌≤◌, ℕ, Bool, true, false, ◌==◌, cond, ◌++◌, Option, Some, refl, sym, ap, subst, ◌∙◌, arith}
use Rattle.std.specs.FinMap as finite
use Rattle.std.specs.Option.{unwrap_or}
use Rattle.std.specs.Str.{bytes_eq}
use Rattle.std.proofs.lemmas.Bool.{and_parts, false≢true}
use Rattle.std.proofs.lemmas.Bool.Decides.{nat_tests}
use Rattle.std.proofs.lemmas.Slice.Eq.{bytes_eq-Decides}
use Rattle.pmg_value.specs.Process.{is_host, host_name}
use Rattle.pmg_value.specs.declared.process.Proc.{Proc}
use Rattle.pmg_value.proofs.ProcessOrder.{procs_total, exact_procs}
use Rattle.pmg_scope.specs.Scripts.{Script, commits}
use Rattle.pmg_scope.specs.declared.scope.Reach.{Reach}
use Rattle.pmg_scope.specs.declared.scope.Reach.TheVariants as reach
use Rattle.pmg_commit.specs.CoreLaws.{numbers-core}
use Rattle.pmg_commit.specs.Data.{Data, absorbed, of_contribution, known, level_at}
use Rattle.pmg_commit.specs.Knowledge.{Contribution, Knowledge, nothing, union, knowledge_of, core}
use Rattle.pmg_commit.specs.Levels.{level}
use Rattle.pmg_commit.specs.Sealed.{Sealed, fresh, piece_at, is_other}
use Rattle.pmg_commit.specs.SealerRules.{FitsSealer}
use Rattle.pmg_commit.proofs.Joining.{unions_comm, union_nothing, core-union_right, known_together}
use Rattle.pmg_commit.proofs.Rules.{level_reaches}
use Rattle.pmg_commit.proofs.SealerLaws.{pieces_are_honest}
use Rattle.pmg_pset.specs.Sets.{host}
use Rattle.pmg_fence.specs.Entering.{same_proc}
use Rattle.pmg_fence.proofs.EntryLemmas.{proc_itself}
use Rattle.pmg_fence.proofs.Trees.{get_put}
use Rattle.pmg_store.specs.HonestData.{IsHonestData}
use Rattle.pmg_store.specs.Pieces.{is_of, piece_knowledge}
use Rattle.pmg_store.proofs.HonestDataLaws.{absorbed_is_honest, longer_is_honest, honest_level_is_made}
use Rattle.pmg_store.proofs.Telling.{known_by}
use Rattle.pmg_node_model.specs.Fitting.{FitsOwn}
use Rattle.pmg_node_model.specs.Holdings.{NodeState, sealer_in, sealer_of, sealers_with, sets_with}

-- ---- the host's process

zero_is : (n : ℕ) → (n == 0) ≡ true → n ≡ 0
zero_is n e = grind (arith, nat_tests)

pub host_is : (p : Proc) → is_host p ≡ true → p ≡ host
host_is p e =
    let parts = and_parts (bytes_eq p.nspace host_name) (p.rank == 0) e in
    let name = (bytes_eq-Decides p.nspace host_name).0 parts.0 in
    let rank = zero_is p.rank parts.1 in
    λ i. record { nspace = name i; rank = rank i }

-- ---- sealers

both_one : (p q : Proc) → is_host p ≡ true → is_host q ≡ true → same_proc q p ≡ false → ⊥
both_one p q one other apart = false≢true (sym apart ∙ ap (λ r. same_proc r p) (host_is q other ∙ sym (host_is p one)) ∙ proc_itself p)

module _ (h : NodeState) (p : Proc) (z : Sealed) where
  pub sealer_here : sealer_in (sets_with h p z) (sealers_with h p z) p ≡ z
  unfolding sealer_in
  sealer_here = by_host (is_host p)
    where
      by_host : (b : Bool) → cond b (cond b z h.sets) (unwrap_or (finite.get (cond b h.sealers (finite.insert h.sealers p z)) p) (fresh p)) ≡ z
      by_host true = refl
      by_host false = ap (λ (o : Option Sealed). unwrap_or o (fresh p)) (get_put procs_total exact_procs h.sealers p z)

  pub sealer_there : (q : Proc) → same_proc q p ≡ false → sealer_in (sets_with h p z) (sealers_with h p z) q ≡ sealer_of h q
  unfolding sealer_in
  sealer_there q apart = by_hosts (is_host p) (is_host q) refl refl
    where
      by_hosts : (b c : Bool) → is_host p ≡ b → is_host q ≡ c
          → cond c (cond b z h.sets) (unwrap_or (finite.get (cond b h.sealers (finite.insert h.sealers p z)) q) (fresh q)) ≡ cond c h.sets (unwrap_or (finite.get h.sealers q) (fresh q))
      by_hosts true true one other = absurd (both_one p q one other apart)
      by_hosts true false one other = refl
      by_hosts false true one other = refl
      by_hosts false false one other =
          ap (λ (o : Option Sealed). unwrap_or o (fresh q)) (finite.get-insert procs_total h.sealers p z q ∙ ap (λ b. cond b (Some z) (finite.get h.sealers q)) apart)

-- ---- levels

level_known : (d : Data) (c : Contribution) (p : Proc) → level_at (absorbed d c) p ≡ level (union (known d p) (piece_knowledge p c)).numbers
level_known d c p =
    ap (λ (k : Knowledge). level k.numbers)
    (known_together d (of_contribution c) p ∙ ap (λ k. core (union (known d p) k)) (known_by c p) ∙ core-union_right (known d p) (piece_knowledge p c))
    ∙ ap level (numbers-core (union (known d p) (piece_knowledge p c)))

-- a piece that begins no later than the level raises it to its end
pub level_raised : (d : Data) (c : Contribution) (p : Proc) → is_of p c ≡ true → c.from ≤ level_at d p → c.to ≤ level_at (absorbed d c) p
level_raised d c p of from =
    let within : ℕ → Type 0 = λ n. c.to ≤ n in
    subst within (sym (level_known d c p ∙ ap (λ (b : Bool). level (union (known d p) (cond b (knowledge_of c) nothing)).numbers) of)) (level_reaches (known d p) c from)

-- a piece of another process leaves it
pub level_left : (d : Data) (c : Contribution) (p : Proc) → is_of p c ≡ false → level_at (absorbed d c) p ≡ level_at d p
level_left d c p of =
    level_known d c p
    ∙ ap (λ (b : Bool). level (union (known d p) (cond b (knowledge_of c) nothing)).numbers) of
    ∙ ap (λ (k : Knowledge). level k.numbers) (unions_comm (known d p) nothing ∙ union_nothing (known d p))

-- ---- an own process's next commit

both_ways : (m n : ℕ) → m ≤ n → n ≤ m → m ≡ n
both_ways m n up down = omega (arith, up, down)

module _ (s more : Script) (p : Proc) (z w : Sealed) (r : Reach) (other : is_other r ≡ true) (d : Data) (fits : FitsSealer z s) (new : FitsSealer w (s ++ more)) (same : w.proc ≡ p) where
  pub sealed_honest : IsHonestData s r p d → IsHonestData (s ++ more) r p (absorbed d (piece_at w z.level r))
  sealed_honest honest =
      absorbed_is_honest (s ++ more) r p d (piece_at w z.level r) (λ _. pieces_are_honest w (s ++ more) z.level r new other) (longer_is_honest s more r p d honest)

  pub sealed_level : IsHonestData s r p d → level_at d p ≡ commits s → level_at (absorbed d (piece_at w z.level r)) p ≡ commits (s ++ more)
  sealed_level honest at =
      let c = piece_at w z.level r in
      let raised : w.level ≤ level_at (absorbed d c) p = level_raised d c p (ap (same_proc p) same ∙ proc_itself p) (omega (arith, fits.level, at)) in
      let made = honest_level_is_made (s ++ more) r p (absorbed d c) (sealed_honest honest) in
      both_ways (level_at (absorbed d c) p) (commits (s ++ more)) made (subst (λ n. n ≤ level_at (absorbed d c) p) new.level raised)

-- what is held of the process fits then
pub own_sealed : (s more : Script) (p : Proc) (z w : Sealed) (near far : Data) → FitsOwn s p z near far → IsHonestData s reach.Far p far → FitsSealer w (s ++ more) → w.proc ≡ z.proc
    → FitsOwn (s ++ more) p w (absorbed near (piece_at w z.level reach.Near)) (absorbed far (piece_at w z.level reach.Far))
own_sealed s more p z w near far fits honest new same = record {
  sealer = new;
  proc = same ∙ fits.proc;
  near_honest = sealed_honest s more p z w reach.Near refl near fits.sealer new (same ∙ fits.proc) fits.near_honest;
  near_level = sealed_level s more p z w reach.Near refl near fits.sealer new (same ∙ fits.proc) fits.near_honest fits.near_level;
  far_level = sealed_level s more p z w reach.Far refl far fits.sealer new (same ∙ fits.proc) honest fits.far_level;
}

-- and what is held of another one still does
pub own_beside : (s : Script) (q : Proc) (x : Sealed) (near far : Data) (c d : Contribution) → is_of q c ≡ false → is_of q d ≡ false → FitsOwn s q x near far
    → FitsOwn s q x (absorbed near c) (absorbed far d)
own_beside s q x near far c d one other fits = record {
  sealer = fits.sealer;
  proc = fits.proc;
  near_honest = absorbed_is_honest s reach.Near q near c (λ of. absurd (false≢true (sym one ∙ of))) fits.near_honest;
  near_level = level_left near c q one ∙ fits.near_level;
  far_level = level_left far d q other ∙ fits.far_level;
}
