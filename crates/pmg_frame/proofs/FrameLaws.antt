-- A frame that is read was spelled so, and what is spelled so is read.
use Rattle.std.proofs.Common.{◌≡◌, ℕ, ◌+◌, ◌^◌, ◌≤◌, Bool, true, false, ◌==◌, ◌&&◌, nat_lt, nat_le, cond, ltb, List, [], ◌∷◌, ◌++◌, length, take, drop, Option, Some, None, Result, Ok, IsTrue, refl, sym, ap, subst, ◌∙◌, append_assoc, arith}
use Rattle.std.specs.Int.{w32, to_be_bytes}
use Rattle.std.proofs.lemmas.Bool.{ltb-false, le-ltb, leb-true, le-leb, eqb-true}
use Rattle.std.proofs.lemmas.List.{length-append, length-take, take-append-drop, take_at, drop_at, append-nil}
use Rattle.pmg_value.specs.declared.refusal.Cause.TheVariants as causes
use Rattle.pmg_value.specs.declared.refusal.Fault.{Fault}
use Rattle.pmg_wire.specs.Fields.{made}
use Rattle.pmg_wire.specs.Reading.{Place, past, front, Read, fault, ◌>>=◌, check, byte_at, number_at, IsBytes, Takes}
use Rattle.pmg_wire.proofs.Steps.{place, IfRead, bind_if, check_if, choice_if, done_if, bind_ok, Takes-then, IsBytes-after, IsBytes-take, IsBytes-drop, wide32, number_if, number_again, byte_if, byte_again}
use Rattle.pmg_frame.specs.declared.frame.Frame.{Frame}
use Rattle.pmg_frame.specs.declared.frame.Frame.TheVariants as frames
use Rattle.pmg_frame.specs.Grammar.{IsFrame, IsSpelt, SpellsFrame}
use Rattle.pmg_frame.specs.Spelling.{header_body, fence_ask_body}
use Rattle.pmg_frame.specs.RunSpelling.{short_header, short_fence_ask}
use Rattle.pmg_frame.specs.Reading.{read_fields, read_frame_body, read_head, behind_head, read_frame}
use Rattle.pmg_frame.specs.FenceReading.{read_header, read_fence_ask}
use Rattle.pmg_frame.specs.RunReading.{read_short_header, read_short_ask}
use Rattle.pmg_frame.specs.Versions.{is_version, kind_of, body_spelling, head_spelling, frame_spelling, Spelt, spelt_text}
use Rattle.pmg_frame.specs.declared.reading.Head.{Head}
use Rattle.pmg_frame.proofs.PieceLaws.{piece_if, piece_again}
use Rattle.pmg_frame.proofs.HeaderLaws.{header_if, header_again, fence_ask_if, fence_ask_again, commit_ask_if, commit_ask_again}
use Rattle.pmg_frame.proofs.RefreshLaws.{refresh_if, ask_read_again, reply_read_again}
use Rattle.pmg_frame.proofs.LocalRunLaws.{short_header_if, short_header_again}
use Rattle.pmg_frame.proofs.RunLaws.{short_ask_if, short_ask_again}

-- the kinds of frames
abbrev is_kind : ℕ → Bool
is_kind k = nat_lt 0 k && nat_lt k 7

-- what a head took
pub record TakesHead (at : Place) (head : Head) (after : Place) : Type 0 where
  pub takes : Takes at (head_spelling head.version head.kind head.len) after
  pub version : IsTrue (is_version head.version)
  pub kind : IsTrue (is_kind head.kind)
  pub small : head.len ≤ 16777216

pub head_if : (at : Place) → IsBytes at.rest → IfRead (read_head at) (TakesHead at)
unfolding read_head
head_if at fits =
    let whole : ℕ → ℕ → Place → ℕ × Place → Read Head = λ version kind at_len len.
    check (nat_le len.0 16777216) (fault at_len.offset causes.Length) >>= λ _. Ok (record { version = version; kind = kind; len = len.0 }, len.1) in
    let sized : ℕ → ℕ × Place → Read Head = λ version kind. number_at w32 kind.1 >>= whole version kind.0 kind.1 in
    let kinded : ℕ → Place → ℕ × Place → Read Head = λ version at_kind kind. check (is_kind kind.0) (fault at_kind.offset causes.Kind) >>= λ _. sized version kind in
    let versioned : ℕ × Place → Read Head = λ version. byte_at version.1 >>= kinded version.0 version.1 in
    bind_if (λ version. check (is_version version.0) (fault at.offset causes.Version) >>= λ _. versioned version) (byte_if at) (λ version a v.
    let a_fits : IsBytes a.rest = IsBytes-after (version ∷ []) fits v.takes in
    check_if (is_version version) (fault at.offset causes.Version) (λ _. versioned (version, a)) (λ first.
    bind_if (kinded version a) (byte_if a) (λ kind b k.
    let b_fits : IsBytes b.rest = IsBytes-after (kind ∷ []) a_fits k.takes in
    check_if (is_kind kind) (fault a.offset causes.Kind) (λ _. sized version (kind, b)) (λ second.
    bind_if (whole version kind b) (number_if w32 (2 ^ 32) wide32 b b_fits) (λ len d n.
    check_if (nat_le len 16777216) (fault b.offset causes.Length) (λ _. Ok (record { version = version; kind = kind; len = len }, d)) (λ third.
    let two = Takes-then (kind ∷ []) (to_be_bytes w32 len) k.takes n.takes in
    let all = Takes-then (version ∷ []) (kind ∷ to_be_bytes w32 len) v.takes two in
    done_if (record { takes = all; version = first; kind = second; small = leb-true len 16777216 third })))))))

pub head_again : (o v kind len : ℕ) → IsTrue (is_version v) → IsTrue (is_kind kind) → len ≤ 16777216
    → read_head (place o (head_spelling v kind len)) ≡ Ok (record { version = v; kind = kind; len = len }, place (o + 6) [])
unfolding read_head
head_again o v kind len known is small =
    let first = byte_again o v (kind ∷ to_be_bytes w32 len) in
    let second = byte_again (o + 1) kind (to_be_bytes w32 len) in
    let third = number_again w32 (2 ^ 32) wide32 (o + 1 + 1) len [] (omega arith) in
    rw (first, known, second, is, third, le-leb len 16777216 small) (ap (λ (n : ℕ). Ok (record { version = v; kind = kind; len = len }, place n [])) (omega arith))

check_ok : {B : Type 0} (b : Bool) (d : Fault) (f : Unit {0} → Result B Fault) (y : B) → (check b d >>= f) ≡ Ok y → IsTrue b × (f tt ≡ Ok y)
check_ok true d f y e = (refl, e)
check_ok false d f y e = absurd cc

no_items : {A : Type 0} (xs : List A) → length xs ≡ 0 → xs ≡ []
no_items [] e = refl
no_items (x ∷ xs) e = absurd (omega arith)

abbrev done : {A : Type 0} → A → Result A Fault
done x = Ok x

ok_is : {A : Type 0} (x y : A) → done x ≡ done y → x ≡ y
ok_is x y e = cc

-- what a body says
pub record IsBody (v kind : ℕ) (at : Place) (frame : Frame) : Type 0 where
  pub text : at.rest ≡ body_spelling v frame
  pub is : IsFrame frame
  pub of_kind : kind ≡ kind_of frame

-- what the fields of a body took
pub record TakesFields (v kind : ℕ) (at : Place) (frame : Frame) (after : Place) : Type 0 where
  pub takes : Takes at (body_spelling v frame) after
  pub is : IsFrame frame
  pub of_kind : kind ≡ kind_of frame

last_kind : (k : ℕ) → IsTrue (is_kind k) → (k == 1) ≡ false → (k == 2) ≡ false → (k == 3) ≡ false → (k == 4) ≡ false → (k == 5) ≡ false → k ≡ 6
last_kind k is n1 n2 n3 n4 n5 = grind arith

-- a header, as the version writes it
header_fields_if : (v : ℕ) (at : Place) → IsBytes at.rest → IfRead (made frames.Header (cond (v == 1) (read_header at) (read_short_header at))) (TakesFields v 2 at)
header_fields_if v at fits = by (v == 1) refl where
  by : (b : Bool) → (v == 1) ≡ b → IfRead (made frames.Header (cond b (read_header at) (read_short_header at))) (TakesFields v 2 at)
  by true is = bind_if (λ x. Ok (frames.Header x.0, x.1)) (header_if at fits) (λ h after t. done_if (record { takes = rw is t.takes; is = t.is; of_kind = refl }))
  by false is = bind_if (λ x. Ok (frames.Header x.0, x.1)) (short_header_if at fits) (λ h after t. done_if (record { takes = rw is t.takes; is = t.is; of_kind = refl }))

-- a fence ask, as the version writes it
ask_fields_if : (v : ℕ) (at : Place) → IsBytes at.rest → IfRead (made frames.FenceAsk (cond (v == 1) (read_fence_ask at) (read_short_ask at))) (TakesFields v 3 at)
ask_fields_if v at fits = by (v == 1) refl where
  by : (b : Bool) → (v == 1) ≡ b → IfRead (made frames.FenceAsk (cond b (read_fence_ask at) (read_short_ask at))) (TakesFields v 3 at)
  by true is = bind_if (λ x. Ok (frames.FenceAsk x.0, x.1)) (fence_ask_if at fits) (λ a after t. done_if (record { takes = rw is t.takes; is = t.is; of_kind = refl }))
  by false is = bind_if (λ x. Ok (frames.FenceAsk x.0, x.1)) (short_ask_if at fits) (λ a after t. done_if (record { takes = rw is t.takes; is = t.is; of_kind = refl }))

-- the kind that is read is the number that was tested
of_number : (v n kind : ℕ) (at : Place) (r : Read Frame) → kind ≡ n → IfRead r (TakesFields v n at) → IfRead r (TakesFields v kind at)
of_number v n kind at r is = subst (λ (k : ℕ). IfRead r (TakesFields v k at)) (sym is)

fields_if : (v kind : ℕ) (at : Place) → IsTrue (is_kind kind) → IsBytes at.rest → IfRead (read_fields v kind at) (TakesFields v kind at)
unfolding read_fields
fields_if v kind at known fits =
    choice_if (kind == 1) (λ is. bind_if (λ x. Ok (frames.Piece x.0, x.1)) (piece_if at fits) (λ x after t. done_if (record { takes = t.takes; is = t.is; of_kind = eqb-true kind 1 is }))) (λ n1.
    choice_if (kind == 2) (λ is. of_number v 2 kind at _ (eqb-true kind 2 is) (header_fields_if v at fits)) (λ n2.
    choice_if (kind == 3) (λ is. of_number v 3 kind at _ (eqb-true kind 3 is) (ask_fields_if v at fits)) (λ n3.
    choice_if (kind == 4) (λ is. bind_if (λ x. Ok (frames.RangeAsk x.0, x.1)) (commit_ask_if at fits) (λ x after t. done_if (record { takes = t.takes; is = t.is; of_kind = eqb-true kind 4 is }))) (λ n4.
    choice_if (kind == 5) (λ is. bind_if (λ x. Ok (frames.DirectAsk x.0, x.1)) (commit_ask_if at fits) (λ x after t. done_if (record { takes = t.takes; is = t.is; of_kind = eqb-true kind 5 is }))) (λ n5.
    record { holds = λ frame after e. let t = (refresh_if v at fits).holds frame after e in record { takes = t.takes; is = t.is; of_kind = last_kind kind known n1 n2 n3 n4 n5 ∙ sym t.of_kind } })))))

pub body_found : (v kind : ℕ) (at : Place) (frame : Frame) → IsTrue (is_kind kind) → IsBytes at.rest → read_frame_body v kind at ≡ Ok frame → IsBody v kind at frame
unfolding read_frame_body
body_found v kind at frame known fits e =
    let whole = bind_ok (read_fields v kind at) _ frame e in
    let taken = (fields_if v kind at known fits).holds whole.0.0 whole.0.1 whole.1 in
    let checked = check_ok (length whole.0.1.rest == 0) _ (λ _. Ok whole.0.0) frame whole.2 in
    let empty : whole.0.1.rest ≡ [] = no_items whole.0.1.rest (eqb-true (length whole.0.1.rest) 0 checked.0) in
    let body : IsBody v kind at whole.0.0 = record {
      text = taken.takes.parts ∙ rw (empty, append-nil (body_spelling v whole.0.0)) refl;
      is = taken.is;
      of_kind = taken.of_kind;
    } in
    subst (IsBody v kind at) (ok_is whole.0.0 frame checked.1) body

-- read again, as the version writes it
by_version : {X : Type 0} (tag : X → Frame) (first second : Place → Read X) (one two : List ℕ) (o : ℕ) (rest : List ℕ) (x : X)
    → first (place o (one ++ rest)) ≡ Ok (x, place (o + length one) rest) → second (place o (two ++ rest)) ≡ Ok (x, place (o + length two) rest) → (b : Bool)
    → made tag (cond b (first (place o (cond b one two ++ rest))) (second (place o (cond b one two ++ rest)))) ≡ Ok (tag x, place (o + length (cond b one two)) rest)
by_version tag first second one two o rest x again else_again true = rw again refl
by_version tag first second one two o rest x again else_again false = rw else_again refl

fields_again : (v o : ℕ) (frame : Frame) (rest : List ℕ) → IsFrame frame → read_fields v (kind_of frame) (place o (body_spelling v frame ++ rest)) ≡ Ok (frame, place (o + length (body_spelling v frame)) rest)
unfolding read_fields
fields_again v o (frames.Piece c) rest is = rw (piece_again o c rest is) refl
fields_again v o (frames.Header h) rest is =
    by_version frames.Header read_header read_short_header (header_body h) (short_header h) o rest h (header_again o h rest is) (short_header_again o h rest is) (v == 1)
fields_again v o (frames.FenceAsk a) rest is =
    by_version frames.FenceAsk read_fence_ask read_short_ask (fence_ask_body a) (short_fence_ask a) o rest a (fence_ask_again o a rest is) (short_ask_again o a rest is) (v == 1)
fields_again v o (frames.RangeAsk a) rest is = rw (commit_ask_again o a rest is) refl
fields_again v o (frames.DirectAsk a) rest is = rw (commit_ask_again o a rest is) refl
fields_again v o (frames.RefreshAsk a) rest is = ask_read_again o a rest is
fields_again v o (frames.RefreshReply r) rest is = reply_read_again o r rest is

pub body_again : (v o : ℕ) (frame : Frame) → IsFrame frame → read_frame_body v (kind_of frame) (place o (body_spelling v frame)) ≡ Ok frame
unfolding read_frame_body
body_again v o frame is =
    let padded : read_fields v (kind_of frame) (place o (body_spelling v frame)) ≡ Ok (frame, place (o + length (body_spelling v frame)) []) =
    ap (λ (t : List ℕ). read_fields v (kind_of frame) (place o t)) (sym (append-nil (body_spelling v frame))) ∙ fields_again v o frame [] is in
    rw padded refl

-- a prefix of the bytes that is there
pub chosen : {A : Type 0} (b : Bool) (r : Result (Option A) Fault) (x : A) → cond b (Ok None) r ≡ Ok (Some x) → (b ≡ false) × (r ≡ Ok (Some x))
chosen true r x e = absurd cc
chosen false r x e = (refl, e)

pub some_is : {A : Type 0} (x y : A) → done (Some x) ≡ done (Some y) → x ≡ y
some_is x y e = cc

-- a head and a body in their windows make a frame
frame_of_parts : (at : Place) (head : Head) (end : Place) (frame : Frame) → 6 ≤ length at.rest → head.len ≤ length (drop 6 at.rest)
    → TakesHead (front 6 at) head end → IsBody head.version head.kind (front head.len (past at 6)) frame → SpellsFrame head.version at frame (past (past at 6) head.len)
frame_of_parts at head end frame six enough h b =
    let v = head.version in
    let rest = drop 6 at.rest in
    let head_text = head_spelling v head.kind head.len in
    let body = body_spelling v frame in
    let ended : length end.rest ≡ 0 = omega (arith, ap length h.takes.parts, length-append head_text end.rest, length-take 6 at.rest) in
    let head_is : take 6 at.rest ≡ head_text = h.takes.parts ∙ rw (no_items end.rest ended, append-nil head_text) refl in
    let len : head.len ≡ length body = omega (arith, ap length b.text, length-take head.len rest) in
    let split : at.rest ≡ head_text ++ (body ++ drop head.len rest) =
    sym (take-append-drop 6 at.rest) ∙ ap (λ (t : List ℕ). t ++ rest) head_is
    ∙ ap (λ (t : List ℕ). head_text ++ t) (sym (take-append-drop head.len rest) ∙ ap (λ (t : List ℕ). t ++ drop head.len rest) b.text) in
    let parts : at.rest ≡ (head_text ++ body) ++ drop head.len rest = split ∙ sym (append_assoc head_text body (drop head.len rest)) in
    let spelled : head_text ≡ head_spelling v (kind_of frame) (length body) = ap (λ (k : ℕ). head_spelling v k head.len) b.of_kind ∙ ap (head_spelling v (kind_of frame)) len in
    record {
      version = h.version;
      takes = record {
        parts = parts ∙ ap (λ (t : List ℕ). (t ++ body) ++ drop head.len rest) spelled;
        place = omega (arith, len, length-append (head_spelling v (kind_of frame) (length body)) body);
      };
      small = omega (arith, len, h.small);
      is = b.is;
    }

pub frame_found : (at : Place) (frame : Frame) (after : Place) → IsBytes at.rest → read_frame at ≡ Ok (Some (frame, after)) → (v : ℕ) × SpellsFrame v at frame after
unfolding read_frame behind_head
frame_found at frame after fits e =
    let long = chosen (ltb (length at.rest) 6) _ (frame, after) e in
    let head_read = bind_ok (read_head (front 6 at)) (λ head. behind_head head.0 (past at 6)) (Some (frame, after)) long.1 in
    let head = head_read.0.0 in
    let behind = chosen (ltb (length (drop 6 at.rest)) head.len) _ (frame, after) head_read.2 in
    let body_read = bind_ok (read_frame_body head.version head.kind (front head.len (past at 6))) (λ c. Ok (Some (c, past (past at 6) head.len))) (Some (frame, after)) behind.1 in
    let six : 6 ≤ length at.rest = ltb-false _ _ long.0 in
    let enough : head.len ≤ length (drop 6 at.rest) = ltb-false _ _ behind.0 in
    let h = (head_if (front 6 at) (IsBytes-take 6 at.rest fits)).holds head head_read.0.1 head_read.1 in
    let b = body_found head.version head.kind (front head.len (past at 6)) body_read.0 h.kind (IsBytes-take head.len (drop 6 at.rest) (IsBytes-drop 6 at.rest fits)) body_read.1 in
    let found = frame_of_parts at head head_read.0.1 body_read.0 six enough h b in
    let is : (body_read.0, past (past at 6) head.len) ≡ (frame, after) = some_is _ (frame, after) body_read.2 in
    (head.version, subst (λ (x : Frame × Place). SpellsFrame head.version at x.0 x.1) is found)

kind_known : (frame : Frame) → IsTrue (is_kind (kind_of frame))
kind_known (frames.Piece c) = refl
kind_known (frames.Header h) = refl
kind_known (frames.FenceAsk a) = refl
kind_known (frames.RangeAsk a) = refl
kind_known (frames.DirectAsk a) = refl
kind_known (frames.RefreshAsk a) = refl
kind_known (frames.RefreshReply r) = refl

pub frame_again : (v o : ℕ) (frame : Frame) (rest : List ℕ) → IsTrue (is_version v) → length (body_spelling v frame) ≤ 16777216 → IsFrame frame
    → read_frame (place o (frame_spelling v frame ++ rest)) ≡ Ok (Some (frame, place (o + length (frame_spelling v frame)) rest))
unfolding read_frame behind_head
frame_again v o frame rest known small is =
    let body = body_spelling v frame in
    let head_text = head_spelling v (kind_of frame) (length body) in
    let behind = body ++ rest in
    let regrouped : frame_spelling v frame ++ rest ≡ head_text ++ behind = append_assoc head_text body rest in
    let long : ltb (length (head_text ++ behind)) 6 ≡ false = le-ltb _ _ (omega (arith, length-append head_text behind)) in
    let enough : ltb (length behind) (length body) ≡ false = le-ltb _ _ (omega (arith, length-append body rest)) in
    let h = head_again o v (kind_of frame) (length body) known (kind_known frame) small in
    let b = body_again v (o + 6) frame is in
    let end : o + 6 + length body ≡ o + length (frame_spelling v frame) = omega (arith, length-append head_text body) in
    ap (λ (t : List ℕ). read_frame (place o t)) regrouped
    ∙ rw (long, take_at head_text behind 6 refl, drop_at head_text behind 6 refl, h, enough, take_at body rest (length body) refl, drop_at body rest (length body) refl, b)
    (ap (λ (n : ℕ). Ok (Some (frame, place n rest))) end)

pub frame_only : (v : ℕ) (at : Place) (frame : Frame) (after : Place) → SpellsFrame v at frame after → read_frame at ≡ Ok (Some (frame, after))
frame_only v at frame after s =
    ap (λ (text : List ℕ). read_frame (place at.offset text)) s.takes.parts
    ∙ frame_again v at.offset frame after.rest s.version s.small s.is
    ∙ ap (λ (n : ℕ). Ok (Some (frame, place n after.rest))) (sym s.takes.place)

-- the version is the first byte
first_byte : (a b : ℕ) (x y : List ℕ) → a ∷ x ≡ b ∷ y → a ≡ b
first_byte a b x y e = cc

pub one_spelling : (s t : Spelt) (x y : List ℕ) → IsSpelt s → IsSpelt t → spelt_text s ++ x ≡ spelt_text t ++ y → (s.version ≡ t.version) × (s.frame ≡ t.frame) × (x ≡ y)
one_spelling s t x y is_s is_t e =
    let first = frame_again s.version 0 s.frame x is_s.version is_s.small is_s.is in
    let second = frame_again t.version 0 t.frame y is_t.version is_t.small is_t.is in
    let same : (s.frame, place (0 + length (spelt_text s)) x) ≡ (t.frame, place (0 + length (spelt_text t)) y) =
    some_is _ _ (sym first ∙ ap (λ (text : List ℕ). read_frame (place 0 text)) e ∙ second) in
    (first_byte s.version t.version _ _ e, ap (λ (z : Frame × Place). z.0) same, ap (λ (z : Frame × Place). z.1.rest) same)
