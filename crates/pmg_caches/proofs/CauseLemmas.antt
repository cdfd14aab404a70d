-- The first cause of a call that a client's cache answers, once its caller was judged.
use Rattle.std.proofs.Common.{◌≡◌, Bool, true, false, ◌||◌, cond, Result, Ok, Err, refl, sym, ap, subst, ◌∙◌}
use Rattle.pmg_value.specs.Answers.{Fails}
use Rattle.pmg_value.specs.CheckOrder.{first_of}
use Rattle.pmg_value.specs.declared.refusal.Refusal.{Refusal}
use Rattle.pmg_value.specs.declared.refusal.Refusal.TheVariants as refusals
use Rattle.pmg_node_model.specs.Acts.{Reply}
use Rattle.pmg_node.specs.Acting.{reply_as}
use Rattle.pmg_node.specs.Servers.{IsAnswered, Replies, reply_in}
use Rattle.pmg_node.specs.declared.act.Reply.{Reply as GivenReply}
use Rattle.pmg_node.proofs.RefusalLemmas.{refused_as}

-- the five causes of a caller's, before the rest
abbrev judged : {Y : Type 0} → Bool → Bool → Bool → Bool → Bool → Result Y Refusal → Result Y Refusal
judged b u n t y rest =
    cond b (Err refusals.BadParam) (cond u (Err refusals.UnknownNamespace) (cond n (Err refusals.NotMine) (cond t (Err refusals.Terminated) (cond y (Err refusals.Busy) rest))))

or_false : (b : Bool) → (b || false) ≡ b
or_false true = refl
or_false false = refl

or_true : (b : Bool) → (b || true) ≡ true
or_true true = refl
or_true false = refl

-- the causes of two, where the other one has none of a caller's
merged : {Y : Type 0} (b u n t y : Bool) (rest : Result Y Refusal) → judged (b || false) (u || false) (n || false) (t || false) (y || false) rest ≡ judged b u n t y rest
merged b u n t y rest = (λ i. judged (or_false b i) (or_false u i) (or_false n i) (or_false t i) (or_false y i) rest)

pub same_error : {X Y : Type 0} (c e : Refusal) → ◌≡◌ {A = Result X Refusal} (Err c) (Err e) → ◌≡◌ {A = Result Y Refusal} (Err c) (Err e)
same_error c e h = let same : c ≡ e = cc in ap Err same

-- a caller of whom something is amiss
judged_err : {X Y : Type 0} (b u n t y : Bool) (x : X) (rest : Result Y Refusal) (e : Refusal) → judged b u n t y (Ok x) ≡ Err e → judged b u n t y rest ≡ Err e
judged_err true u n t y x rest e h = same_error refusals.BadParam e h
judged_err false true n t y x rest e h = same_error refusals.UnknownNamespace e h
judged_err false false true t y x rest e h = same_error refusals.NotMine e h
judged_err false false false true y x rest e h = same_error refusals.Terminated e h
judged_err false false false false true x rest e h = same_error refusals.Busy e h
judged_err false false false false false x rest e h = absurd cc

-- and one of whom nothing is
judged_ok : {X Y : Type 0} (b u n t y : Bool) (x z : X) (rest : Result Y Refusal) → judged b u n t y (Ok x) ≡ Ok z → judged b u n t y rest ≡ rest
judged_ok true u n t y x z rest h = absurd cc
judged_ok false true n t y x z rest h = absurd cc
judged_ok false false true t y x z rest h = absurd cc
judged_ok false false false true y x z rest h = absurd cc
judged_ok false false false false true x z rest h = absurd cc
judged_ok false false false false false x z rest h = refl

-- what is due of the causes of a caller's (BadParam, UnknownNamespace, NotMine, Terminated, Busy), and of the call's own two (BadParam, TooMany)
abbrev pub due_of : {Y : Type 0} → Bool → Bool → Bool → Bool → Bool → Bool → Bool → Y → Result Y Refusal
due_of b u n t y bad many answer = judged (b || bad) (u || false) (n || false) (t || false) (y || false) (cond many (Err refusals.TooMany) (Ok answer))

module _ {Y : Type 0} (b u n t y many : Bool) (answer : Y) where
  pub due_bad : (bad : Bool) → bad ≡ true → due_of b u n t y bad many answer ≡ Err refusals.BadParam
  due_bad bad e = (λ i. due_of b u n t y (e i) many answer) ∙ (λ i. judged (or_true b i) (u || false) (n || false) (t || false) (y || false) (cond many (Err refusals.TooMany) (Ok answer)))

  pub due_refused : (bad : Bool) → bad ≡ false → (e : Refusal) → judged b u n t y (Ok (tt {0})) ≡ Err e → due_of b u n t y bad many answer ≡ Err e
  due_refused bad good e h = (λ i. due_of b u n t y (good i) many answer) ∙ merged b u n t y _ ∙ judged_err b u n t y tt _ e h

  pub due_free : (bad : Bool) → bad ≡ false → judged b u n t y (Ok (tt {0})) ≡ Ok tt → due_of b u n t y bad many answer ≡ cond many (Err refusals.TooMany) (Ok answer)
  due_free bad good h = (λ i. due_of b u n t y (good i) many answer) ∙ merged b u n t y _ ∙ judged_ok b u n t y tt tt _ h

-- what a cache answers a put that is not bad
abbrev pub cache_due : {Y : Type 0} → Bool → Bool → Y → Result Y Refusal
cache_due bad many answer = cond bad (Err refusals.BadParam) (cond many (Err refusals.TooMany) (Ok answer))

pub cache_err : {X Y : Type 0} (bad many : Bool) (x : X) (y : Y) (e : Refusal) → bad ≡ false → cache_due bad many x ≡ Err e → cond many (Err refusals.TooMany) (Ok y) ≡ Err e
cache_err true many x y e good is = absurd cc
cache_err false true x y e good is = same_error refusals.TooMany e is
cache_err false false x y e good is = absurd cc

pub cache_ok : {X Y : Type 0} (bad many : Bool) (x z : X) (y : Y) → bad ≡ false → cache_due bad many x ≡ Ok z → ◌≡◌ {A = Result Y Refusal} (cond many (Err refusals.TooMany) (Ok y)) (Ok y)
cache_ok true many x z y good is = absurd cc
cache_ok false true x z y good is = absurd cc
cache_ok false false x z y good is = refl

-- and it is all that is due of one that is not bad
pub cache_is : {Y : Type 0} (bad many : Bool) (answer : Y) → bad ≡ false → cache_due bad many answer ≡ cond many (Err refusals.TooMany) (Ok answer)
cache_is bad many answer good = λ i. cache_due (good i) many answer

-- what is amiss of a caller is told as it is due
pub judged_fails : {Y : Type 0} (b u n t y : Bool) (e : Refusal) (due : Result Y Refusal) → judged b u n t y (Ok (tt {0})) ≡ Err e → due ≡ Err e → Fails e due
judged_fails true u n t y e due h is = let same : refusals.BadParam ≡ e = cc in subst (λ (x : Refusal). Fails x due) same (is ∙ ap Err (sym same))
judged_fails false true n t y e due h is = let same : refusals.UnknownNamespace ≡ e = cc in subst (λ (x : Refusal). Fails x due) same (is ∙ ap Err (sym same))
judged_fails false false true t y e due h is = let same : refusals.NotMine ≡ e = cc in subst (λ (x : Refusal). Fails x due) same (is ∙ ap Err (sym same))
judged_fails false false false true y e due h is = let same : refusals.Terminated ≡ e = cc in subst (λ (x : Refusal). Fails x due) same (is ∙ ap Err (sym same))
judged_fails false false false false true e due h is = let same : refusals.Busy ≡ e = cc in subst (λ (x : Refusal). Fails x due) same (is ∙ ap Err (sym same))
judged_fails false false false false false e due h is = absurd cc

-- an answer that is none of a failed allocation is the one that is due
pub replied_due : (answer : Result GivenReply Refusal) (due : Reply) → Replies reply_as answer due → IsAnswered answer → reply_in reply_as answer ≡ due
replied_due (Ok r) due is told = sym is
replied_due (Err e) due is told = sym (refused_as GivenReply e due told is)

-- a call of the standard's own processes is refused
pub first_bad : {Y : Type 0} (cause : Refusal → Bool) (y : Y) → cause refusals.Closed ≡ false → cause refusals.BadParam ≡ true → first_of cause y ≡ Err refusals.BadParam
first_bad cause y closed bad =
    (λ i. cond (closed i) (Err refusals.Closed) (cond (bad i) (Err refusals.BadParam) (first_rest cause y)))
  where
    first_rest : {Y : Type 0} → (Refusal → Bool) → Y → Result Y Refusal
    first_rest cause y =
        cond (cause refusals.UnknownNamespace) (Err refusals.UnknownNamespace)
        (cond (cause refusals.NotMine) (Err refusals.NotMine)
        (cond (cause refusals.Terminated) (Err refusals.Terminated)
        (cond (cause refusals.Busy) (Err refusals.Busy)
        (cond (cause refusals.NotAParticipant) (Err refusals.NotAParticipant)
        (cond (cause refusals.Exists) (Err refusals.Exists)
        (cond (cause refusals.NotFound) (Err refusals.NotFound)
        (cond (cause refusals.OutsideScope) (Err refusals.OutsideScope)
        (cond (cause refusals.TooMany) (Err refusals.TooMany) (Ok y)))))))))

-- a refusal that is no failed allocation is the one that is due
pub fails_due : {Y : Type 0} (e : Refusal) (due : Result Y Refusal) → Fails e due → (e ≡ refusals.NoMemory → ⊥) → due ≡ Err e
fails_due refusals.NoMemory due fails is = absurd (is refl)
fails_due refusals.BadParam due fails is = fails
fails_due refusals.NotFound due fails is = fails
fails_due refusals.OutsideScope due fails is = fails
fails_due refusals.UnknownNamespace due fails is = fails
fails_due refusals.NotMine due fails is = fails
fails_due refusals.Busy due fails is = fails
fails_due refusals.Terminated due fails is = fails
fails_due refusals.NotAParticipant due fails is = fails
fails_due refusals.TooMany due fails is = fails
fails_due (refusals.BadFrame f) due fails is = fails
fails_due refusals.Exists due fails is = fails
fails_due refusals.Collision due fails is = fails
fails_due refusals.Stale due fails is = fails
fails_due refusals.Unordered due fails is = fails
fails_due refusals.Closed due fails is = fails
