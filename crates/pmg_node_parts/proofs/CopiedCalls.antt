-- Calls that are copied one after another.
use Rattle.std.proofs.Common.{◌≡◌, Bool, true, false, cond, List, [], ◌∷◌, Option, Some, None, is_some, refl, sym, ap, subst, ◌∙◌}
use Rattle.std.specs.BTreeMap.{is_at}
use Rattle.std.specs.FinMap as finite
use Rattle.std.specs.Cmp.{Equal-is}
use Rattle.std.specs.List.{AllByRecursion}
use Rattle.std.specs.Map.{keys_of}
use Rattle.std.specs.Option.{option_map}
use Rattle.std.specs.Ordering.{is_eq}
use Rattle.std.specs.declared.cmp.Ordering.TheVariants.{Less}
use Rattle.std.proofs.lemmas.Bool.{false≢true}
use Rattle.std.proofs.lemmas.Cmp.{tied_itself}
use Rattle.std.proofs.lemmas.Map.Keys.{sorted_head, sorted_tail}
use Rattle.pmg_value.specs.Process.{proc_cmp}
use Rattle.pmg_value.specs.Rows.{AreRising, rows_of}
use Rattle.pmg_value.specs.declared.process.Proc.{Proc}
use Rattle.pmg_value.proofs.ProcessOrder.{procs_total, exact_procs}
use Rattle.pmg_value.proofs.RowLemmas.{at_key, get-rows_of}
use Rattle.pmg_node_model.specs.Holdings.{CallState}
use Rattle.pmg_node_parts.specs.Calls.{standing_of}
use Rattle.pmg_node_parts.specs.Codes.{Calls}
use Rattle.pmg_node_parts.specs.declared.call.Call.{Call}

-- what is left of the rows rises and has the calls of its processes, and the copy has those of all others
pub record IsCopied (all copy : Calls) (rest : List (Proc × Call)) : Type 0 where
  pub rising : AreRising proc_cmp rest
  pub kept : (q : Proc) (c : Call) → at_key proc_cmp q rest ≡ Some c → finite.get all q ≡ Some (standing_of c)
  pub done : (q : Proc) → finite.get copy q ≡ cond (is_some (at_key proc_cmp q rest)) None (finite.get all q)

hidden : (o : Option Call) → None ≡ cond (is_some o) None (option_map standing_of o)
hidden None = refl
hidden (Some c) = refl

pub copied_first : (all copy : Calls) (rows : List (Proc × Call)) → rows_of standing_of rows ≡ all → AreRising proc_cmp rows → copy ≡ finite.empty → IsCopied all copy rows
copied_first all copy rows same rises none =
    let at : (q : Proc) → finite.get all q ≡ option_map standing_of (at_key proc_cmp q rows) = λ q. ap (λ (m : Calls). finite.get m q) (sym same) ∙ get-rows_of procs_total standing_of rows q in
    record {
      rising = rises;
      kept = λ q c e. at q ∙ ap (option_map standing_of) e;
      done = λ q. ap (λ (m : Calls). finite.get m q) none ∙ finite.get-empty proc_cmp q ∙ hidden (at_key proc_cmp q rows) ∙ ap (λ o. cond (is_some (at_key proc_cmp q rows)) None o) (sym (at q));
    }

-- the first key is none of the others
apart : (p : Proc) (rows : List (Proc × Call)) → AllByRecursion (λ y. proc_cmp p y ≡ Less) (keys_of rows) → at_key proc_cmp p rows ≡ None
apart p [] below = refl
apart p (e ∷ rows) below = ap (λ o. cond (is_eq o) (Some e.1) (at_key proc_cmp p rows)) below.0 ∙ apart p rows below.1

module _ (all copy : Calls) (rest : List (Proc × Call)) (p : Proc) (c : Call) (rows : IsCopied all copy ((p, c) ∷ rest)) where
  only_first : (q : Proc) → is_at (proc_cmp q) p ≡ true → at_key proc_cmp q rest ≡ None
  only_first q t = ap (λ r. at_key proc_cmp r rest) (exact_procs q p ((Equal-is _).0 t)) ∙ apart p rest (sorted_head proc_cmp p (keys_of rest) rows.rising)

  kept_by : (q : Proc) (d : Call) (b : Bool) → is_at (proc_cmp q) p ≡ b → at_key proc_cmp q rest ≡ Some d → at_key proc_cmp q ((p, c) ∷ rest) ≡ Some d
  kept_by q d true t e = absurd (false≢true (ap is_some (sym (only_first q t) ∙ e)))
  kept_by q d false t e = ap (λ b. cond b (Some c) (at_key proc_cmp q rest)) t ∙ e

  done_by : (s : CallState) → s ≡ standing_of c → (q : Proc) (b : Bool) → is_at (proc_cmp q) p ≡ b
      → cond (is_at (proc_cmp q) p) (Some s) (finite.get copy q) ≡ cond (is_some (at_key proc_cmp q rest)) None (finite.get all q)
  done_by s same q true t =
      ap (λ b. cond b (Some s) (finite.get copy q)) t ∙ ap Some same
      ∙ sym (rows.kept q c (ap (λ b. cond b (Some c) (at_key proc_cmp q rest)) t))
      ∙ sym (ap (λ o. cond (is_some o) None (finite.get all q)) (only_first q t))
  done_by s same q false t =
      ap (λ b. cond b (Some s) (finite.get copy q)) t ∙ rows.done q
      ∙ ap (λ b. cond (is_some (cond b (Some c) (at_key proc_cmp q rest))) None (finite.get all q)) t

  after_one : (s : CallState) → s ≡ standing_of c → IsCopied all (finite.insert copy p s) rest
  after_one s same = record {
    rising = sorted_tail proc_cmp p (keys_of rest) rows.rising;
    kept = λ q d e. rows.kept q d (kept_by q d (is_at (proc_cmp q) p) refl e);
    done = λ q. finite.get-insert procs_total copy p s q ∙ done_by s same q (is_at (proc_cmp q) p) refl;
  }

  not_yet : finite.get copy p ≡ None
  not_yet = rows.done p ∙ ap (λ b. cond (is_some (cond b (Some c) (at_key proc_cmp p rest))) None (finite.get all p)) (ap is_eq (tied_itself procs_total p))

pub copied_next : (all copy new : Calls) (left rest : List (Proc × Call)) (p key : Proc) (c : Call) (s : CallState) → left ≡ (p, c) ∷ rest → key ≡ p → s ≡ standing_of c
    → new ≡ finite.insert copy key s → IsCopied all copy left → IsCopied all new rest
copied_next all copy new left rest p key c s next same_key same put before =
    subst (λ (m : Calls). IsCopied all m rest) (ap (λ k. finite.insert copy k s) (sym same_key) ∙ sym put) (after_one all copy rest p c (subst (IsCopied all copy) next before) s same)

pub copied_fresh : (all copy : Calls) (left rest : List (Proc × Call)) (p key : Proc) (c : Call) → left ≡ (p, c) ∷ rest → key ≡ p → IsCopied all copy left → finite.get copy key ≡ None
copied_fresh all copy left rest p key c next same_key before = ap (finite.get copy) same_key ∙ not_yet all copy rest p c (subst (IsCopied all copy) next before)

pub copied_all : (all copy : Calls) (rest : List (Proc × Call)) → rest ≡ [] → IsCopied all copy rest → copy ≡ all
copied_all all copy rest none rows = let done = subst (IsCopied all copy) none rows in finite.same_map procs_total exact_procs copy all (λ q. done.done q)
