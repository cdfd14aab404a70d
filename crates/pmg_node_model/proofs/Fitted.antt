-- What a node holds goes on fitting the scripts.
use Rattle.std.proofs.Common.{◌≡◌, ℕ, Bool, true, false, List, ◌++◌, Option, Some, None, refl, sym, ap, subst, ◌∙◌}
use Rattle.std.specs.FinMap as finite
use Rattle.std.specs.Option.{option_map}
use Rattle.pmg_value.specs.Process.{proc_cmp}
use Rattle.pmg_value.specs.Signatures.{FenceName}
use Rattle.pmg_value.specs.declared.process.Proc.{Proc}
use Rattle.pmg_value.proofs.ProcessOrder.{exact_procs}
use Rattle.std.specs.Cmp.{Equal-is}
use Rattle.std.proofs.lemmas.Bool.{false≢true}
use Rattle.pmg_scope.specs.Scripts.{Script, commits}
use Rattle.pmg_scope.specs.declared.scope.Reach.TheVariants as reach
use Rattle.pmg_commit.specs.Data.{Data, absorbed}
use Rattle.pmg_commit.specs.Honest.{IsHonest}
use Rattle.pmg_commit.specs.Knowledge.{Contribution}
use Rattle.pmg_commit.specs.Sealed.{Sealed, piece_at}
use Rattle.pmg_commit.specs.SealerRules.{FitsSealer}
use Rattle.pmg_commit.proofs.SealerLaws.{pieces_are_honest}
use Rattle.pmg_jobinfo.specs.Jobs.{Jobs, home_of}
use Rattle.pmg_fence.specs.Entering.{same_proc}
use Rattle.pmg_fence.specs.Rules.{FitsTable, Scripts}
use Rattle.pmg_fence.specs.Tables.{Fences}
use Rattle.pmg_get.specs.Gets.{Outcome}
use Rattle.pmg_get.specs.declared.view.Mode.TheVariants as modes
use Rattle.pmg_store.specs.HonestData.{IsHonestData}
use Rattle.pmg_store.specs.Pieces.{is_of}
use Rattle.pmg_store.proofs.HonestDataLaws.{absorbed_is_honest, longer_is_honest}
use Rattle.pmg_node_model.specs.Acts.{said_by}
use Rattle.pmg_node_model.specs.Fitting.{with_said, FitsOwn, FitsCall, Fits, IsIn}
use Rattle.pmg_node_model.specs.Holdings.{Get, CallState, NodeState, sealer_of, call_of, with_far, with_table, with_calls, sealing, settled_by, released_by, settle, settled, is_ready_at, answer_in}
use Rattle.pmg_node_model.proofs.CallFacts.{call-settled}
use Rattle.pmg_node_model.proofs.Saying.{each_said, table_elsewhere}
use Rattle.pmg_node_model.proofs.Sealing.{sealer_here, sealer_there, level_left, own_sealed, own_beside}

-- the calls that the processes at home at the node are in fit the scripts
abbrev pub CallsFit : Jobs → Scripts → ℕ → finite.FinMap proc_cmp CallState → Type 0
CallsFit jobs scripts node calls = (p : Proc) → home_of jobs p ≡ node → FitsCall (scripts p) (finite.get calls p)

-- ---- who is settled

settled_call : (s : Script) (get : Get) (o : Outcome) → FitsCall s (Some (settled_by get o))
settled_call s get Outcome.parks = tt
settled_call s get (Outcome.found value) = tt
settled_call s get Outcome.absent = tt
settled_call s get Outcome.outside = tt

released_call : (s : Script) (b : Bool) (f : FenceName) (gone : List Proc) → IsIn s f → FitsCall s (Some (released_by b f gone))
released_call s true f gone fits = fits
released_call s false f gone fits = fits

settle_fits : (jobs : Jobs) (node : ℕ) (h : NodeState) (s : Script) (c : Option CallState) → FitsCall s c → FitsCall s (option_map (settle jobs node h) c)
settle_fits jobs node h s None fits = tt
settle_fits jobs node h s (Some (CallState.in_fence f)) fits = released_call s (is_ready_at jobs node h f) f _ fits
settle_fits jobs node h s (Some (CallState.released f gone)) fits = fits
settle_fits jobs node h s (Some (CallState.parked get)) fits = settled_call s get (answer_in jobs node h get modes.Wait)
settle_fits jobs node h s (Some (CallState.answered get outcome)) fits = fits
settle_fits jobs node h s (Some (CallState.refreshing get number)) fits = fits
settle_fits jobs node h s (Some (CallState.refreshed get outcome)) fits = fits

-- other calls
pub fits_calls : (jobs : Jobs) (scripts : Scripts) (node : ℕ) (h : NodeState) (calls : finite.FinMap proc_cmp CallState) → Fits jobs scripts node h → CallsFit jobs scripts node calls
    → Fits jobs scripts node (with_calls h calls)
fits_calls jobs scripts node h calls fits fit = record { own = fits.own; calls = fit; table = fits.table; far = fits.far }

pub fits_settled : (jobs : Jobs) (scripts : Scripts) (node : ℕ) (h : NodeState) → Fits jobs scripts node h → Fits jobs scripts node (settled jobs node h)
fits_settled jobs scripts node h fits = record {
  own = fits.own;
  calls = λ p home. subst (FitsCall (scripts p)) (sym (call-settled jobs node h p)) (settle_fits jobs node h (scripts p) (call_of h p) (fits.calls p home));
  table = fits.table;
  far = fits.far;
}

-- ---- an own process's next commit

not_of : (p q : Proc) (c : Contribution) → c.proc ≡ p → same_proc q p ≡ false → is_of q c ≡ false
not_of p q c of apart = ap (same_proc q) of ∙ apart

of_is : (p q : Proc) (c : Contribution) → c.proc ≡ p → is_of q c ≡ true → q ≡ p
of_is p q c of is = exact_procs q c.proc ((Equal-is _).0 is) ∙ of

module _ (jobs : Jobs) (scripts : Scripts) (node : ℕ) (h : NodeState) (p : Proc) (w : Sealed) (said : Script) (home : home_of jobs p ≡ node) (fits : Fits jobs scripts node h)
    (new : FitsSealer w (scripts p ++ said)) (same : w.proc ≡ (sealer_of h p).proc) where
  abbrev near_piece : Contribution
  near_piece = piece_at w (sealer_of h p).level reach.Near

  abbrev far_piece : Contribution
  far_piece = piece_at w (sealer_of h p).level reach.Far

  proc_is : w.proc ≡ p
  proc_is = same ∙ (fits.own p home).proc

  far_sealed : (q : Proc) → IsHonestData (with_said scripts (said_by p said) q) reach.Far q (absorbed h.far far_piece)
  far_sealed = each_said scripts p said (λ q s. IsHonestData s reach.Far q (absorbed h.far far_piece))
      (absorbed_is_honest (scripts p ++ said) reach.Far p h.far far_piece (λ _. pieces_are_honest w (scripts p ++ said) (sealer_of h p).level reach.Far new refl)
      (longer_is_honest (scripts p) said reach.Far p h.far (fits.far p)))
      (λ q apart. absorbed_is_honest (scripts q) reach.Far q h.far far_piece (λ of. absurd (false≢true (sym (not_of p q far_piece proc_is apart) ∙ of))) (fits.far q))

  owns_sealed : (q : Proc) → home_of jobs q ≡ node → FitsOwn (with_said scripts (said_by p said) q) q (sealer_of (sealing h p w) q) (absorbed h.near near_piece) (absorbed h.far far_piece)
  owns_sealed = each_said scripts p said (λ q s. home_of jobs q ≡ node → FitsOwn s q (sealer_of (sealing h p w) q) (absorbed h.near near_piece) (absorbed h.far far_piece))
      (λ at. subst (λ z. FitsOwn (scripts p ++ said) p z (absorbed h.near near_piece) (absorbed h.far far_piece)) (sym (sealer_here h p w))
      (own_sealed (scripts p) said p (sealer_of h p) w h.near h.far (fits.own p home) (fits.far p) new same))
      (λ q apart at. subst (λ z. FitsOwn (scripts q) q z (absorbed h.near near_piece) (absorbed h.far far_piece)) (sym (sealer_there h p w q apart))
      (own_beside (scripts q) q (sealer_of h q) h.near h.far near_piece far_piece (not_of p q near_piece proc_is apart) (not_of p q far_piece proc_is apart) (fits.own q at)))

  -- what the node holds fits then, with a table and calls that fit
  pub fits_sealing : (t : Fences) (calls : finite.FinMap proc_cmp CallState) → FitsTable jobs node (with_said scripts (said_by p said)) t
      → CallsFit jobs (with_said scripts (said_by p said)) node calls → Fits jobs (with_said scripts (said_by p said)) node (with_calls (with_table (sealing h p w) t) calls)
  fits_sealing t calls table fit = record { own = owns_sealed; calls = fit; table = table; far = far_sealed }

-- ---- a call that seals nothing

module _ (jobs : Jobs) (scripts : Scripts) (node : ℕ) (h : NodeState) (p : Proc) (said : Script) (home : home_of jobs p ≡ node) (fits : Fits jobs scripts node h)
    (still : FitsSealer (sealer_of h p) (scripts p ++ said)) where
  own_still : FitsOwn (scripts p ++ said) p (sealer_of h p) h.near h.far
  own_still =
      let mine = fits.own p home in
      let same : commits (scripts p) ≡ commits (scripts p ++ said) = sym mine.sealer.level ∙ still.level in
      record {
        sealer = still;
        proc = mine.proc;
        near_honest = longer_is_honest (scripts p) said reach.Near p h.near mine.near_honest;
        near_level = mine.near_level ∙ same;
        far_level = mine.far_level ∙ same;
      }

  pub fits_saying : (t : Fences) (calls : finite.FinMap proc_cmp CallState) → FitsTable jobs node (with_said scripts (said_by p said)) t
      → CallsFit jobs (with_said scripts (said_by p said)) node calls → Fits jobs (with_said scripts (said_by p said)) node (with_calls (with_table h t) calls)
  fits_saying t calls table fit = record {
    own = each_said scripts p said (λ q s. home_of jobs q ≡ node → FitsOwn s q (sealer_of h q) h.near h.far) (λ at. own_still) (λ q apart at. fits.own q at);
    calls = fit;
    table = table;
    far = each_said scripts p said (λ q s. IsHonestData s reach.Far q h.far) (longer_is_honest (scripts p) said reach.Far p h.far (fits.far p)) (λ q apart. fits.far q);
  }

-- ---- a process of another node makes calls

not_here : (jobs : Jobs) (node : ℕ) (p q : Proc) → (home_of jobs p ≡ node → ⊥) → home_of jobs q ≡ node → same_proc q p ≡ true → ⊥
not_here jobs node p q away at same = away (ap (home_of jobs) (sym (exact_procs q p ((Equal-is _).0 same))) ∙ at)

pub fits_elsewhere : (jobs : Jobs) (scripts : Scripts) (node : ℕ) (h : NodeState) (p : Proc) (said : Script) → (home_of jobs p ≡ node → ⊥) → Fits jobs scripts node h
    → Fits jobs (with_said scripts (said_by p said)) node h
fits_elsewhere jobs scripts node h p said away fits = record {
  own = each_said scripts p said (λ q s. home_of jobs q ≡ node → FitsOwn s q (sealer_of h q) h.near h.far) (λ at. absurd (away at)) (λ q apart at. fits.own q at);
  calls = each_said scripts p said (λ q s. home_of jobs q ≡ node → FitsCall s (call_of h q)) (λ at. absurd (away at)) (λ q apart at. fits.calls q at);
  table = table_elsewhere jobs node h.table p away said scripts fits.table;
  far = each_said scripts p said (λ q s. IsHonestData s reach.Far q h.far) (longer_is_honest (scripts p) said reach.Far p h.far (fits.far p)) (λ q apart. fits.far q);
}

-- ---- a piece comes

other_piece : (jobs : Jobs) (node : ℕ) (c : Contribution) (p : Proc) → (home_of jobs c.proc ≡ node → ⊥) → home_of jobs p ≡ node → is_of p c ≡ false
other_piece jobs node c p away at = by_test (is_of p c) refl
  where
    by_test : (b : Bool) → is_of p c ≡ b → b ≡ false
    by_test true of = absurd (not_here jobs node c.proc p away at of)
    by_test false of = refl

piece_beside : (s : Script) (p : Proc) (z : Sealed) (near far : Data) (c : Contribution) → is_of p c ≡ false → FitsOwn s p z near far → FitsOwn s p z near (absorbed far c)
piece_beside s p z near far c apart own = record {
  sealer = own.sealer;
  proc = own.proc;
  near_honest = own.near_honest;
  near_level = own.near_level;
  far_level = level_left far c p apart ∙ own.far_level;
}

pub fits_piece : (jobs : Jobs) (scripts : Scripts) (node : ℕ) (h : NodeState) (c : Contribution) → (home_of jobs c.proc ≡ node → ⊥) → IsHonest (scripts c.proc) reach.Far c → Fits jobs scripts node h
    → Fits jobs scripts node (with_far h (absorbed h.far c))
fits_piece jobs scripts node h c away honest fits = record {
  own = λ p at. piece_beside (scripts p) p (sealer_of h p) h.near h.far c (other_piece jobs node c p away at) (fits.own p at);
  calls = fits.calls;
  table = fits.table;
  far = λ q. absorbed_is_honest (scripts q) reach.Far q h.far c (λ of. subst (λ r. IsHonest (scripts r) reach.Far c) (sym (of_is c.proc q c refl of)) honest) (fits.far q);
}
