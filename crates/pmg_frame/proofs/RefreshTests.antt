-- What keeps the rules of a refresh reply, in a body that is not too long, passes the test of one, and what passes keeps them.
use Rattle.std.proofs.Common.{◌≡◌, add-zero, ℕ, ◌+◌, ◌<◌, ◌≤◌, Bool, true, false, ◌&&◌, ◌||◌, ◌==◌, nat_lt, nat_le, List, [], ◌∷◌, length, None, IsTrue, Ok, refl, sym, ap, subst, arith}
use Rattle.std.proofs.lemmas.Bool.{and_parts, and_from, leb-true, le-leb, ltb-true, ltb-false, eqb-true, eq-eqb}
use Rattle.std.proofs.lemmas.List.{length-append}
use Rattle.pmg_value.specs.Names.{is_nspace}
use Rattle.pmg_value.specs.Process.{is_client, is_host}
use Rattle.pmg_value.specs.declared.process.Proc.{Proc}
use Rattle.pmg_wire.specs.Many.{Chain}
use Rattle.pmg_wire.specs.Reading.{Place, IsBytes}
use Rattle.pmg_commit.specs.Entries.{Entry}
use Rattle.pmg_commit.specs.Knowledge.{Contribution}
use Rattle.pmg_commit.specs.Pieces.{body_size, is_piece}
use Rattle.pmg_frame.specs.Fences.{commit_ask, is_ask, is_level}
use Rattle.pmg_frame.specs.Grammar.{Follows, IsPiece, IsTold, IsRefreshReply, AreEntries, AreReplies}
use Rattle.pmg_frame.specs.PieceReading.{is_range, read_told}
use Rattle.pmg_frame.specs.Refreshing.{RefreshReply, refresh_reply, is_request, no_commits, is_no_commit, is_refresh_reply}
use Rattle.pmg_frame.specs.Spelling.{asker_spelling, piece_body, refresh_reply_body}
use Rattle.pmg_frame.proofs.PieceLaws.{told_if, piece_told, range_small}
use Rattle.pmg_frame.proofs.PieceTests.{length-piece_body, piece_says, piece_passes}

-- ---- what passes

-- a range of some commits is one of those among which there may be none
or_none : (from to : ℕ) → IsTrue (is_range false from to) → IsTrue (is_range true from to)
or_none from to is =
    let parts = and_parts (nat_lt from to || false) (nat_le to 4294967295) is in
    and_from _ _ (weaker (nat_lt from to) (from == to) parts.0) parts.1
  where
    weaker : (a b : Bool) → IsTrue (a || false) → IsTrue (a || (true && b))
    weaker true b h = refl
    weaker false b h = absurd cc

nothing_range : (from to : ℕ) → from ≡ to → to ≤ 4294967295 → IsTrue (is_range true from to)
nothing_range from to same small = and_from _ _ (either (nat_lt from to) (from == to) (eq-eqb from to same)) (le-leb _ _ small)
  where
    either : (a b : Bool) → b ≡ true → IsTrue (a || (true && b))
    either true b h = refl
    either false b h = h

no_items : {A : Type 0} (xs : List A) → length xs ≡ 0 → xs ≡ []
no_items [] e = refl
no_items (x ∷ xs) e = absurd (omega arith)

-- what no commit is told of says nothing else
pub no_commit_is : (c : Contribution) → IsTrue (is_no_commit c) → (c.from ≡ c.to) × (c.to ≤ 4294967295) × (c.entries ≡ [])
no_commit_is c is =
    let tail = (and_parts (is_client c.proc || is_host c.proc) _ is).1 in
    let range = and_parts (c.from == c.to) _ tail in
    let level = and_parts (is_level c.to) (length c.entries == 0) range.1 in
    (eqb-true c.from c.to range.0, leb-true c.to 4294967295 level.0, no_items c.entries (eqb-true (length c.entries) 0 level.1))

no_commit_told : (c : Contribution) → IsTrue (is_nspace c.proc.nspace) → IsTrue (is_no_commit c) → IsTold true c
no_commit_told c name is =
    let n = no_commit_is c is in
    record {
      name = name;
      admitted = (and_parts (is_client c.proc || is_host c.proc) _ is).0;
      range = nothing_range c.from c.to n.0 n.1;
      count = omega (arith, ap (λ (es : List Entry). length es) n.2);
      entries = subst (λ (es : List Entry). Chain (Follows c.from c.to) None es) (sym n.2) tt;
    }

piece_any : (c : Contribution) → IsPiece c → IsTold true c
piece_any c is =
    let t = piece_told c is in
    record { name = t.name; admitted = t.admitted; range = or_none c.from c.to t.range; count = t.count; entries = t.entries }

either_told : (b : Bool) (c : Contribution) → is_piece c ≡ b → IsTrue (b || is_no_commit c) → IsTrue (is_nspace c.proc.nspace) → AreEntries c.entries → IsTold true c
either_told true c e is name are = piece_any c (piece_says c name are e).0
either_told false c e is name are = no_commit_told c name is

pub length-reply_body : (r : RefreshReply) → length (refresh_reply_body r) ≡ 13 + body_size r.told.proc r.told.entries
length-reply_body r = omega (arith, length-append (asker_spelling r.node r.request true) (piece_body r.told), length-piece_body r.told)

reply_says : (r : RefreshReply) → r.node ≤ 63 → IsTrue (is_nspace r.told.proc.nspace) → AreEntries r.told.entries → IsTrue (is_refresh_reply r)
    → IsRefreshReply r × (length (refresh_reply_body r) ≤ 16777216)
unfolding is_refresh_reply
reply_says r node name are h =
    let sized = and_parts _ _ h in
    let told = and_parts _ _ sized.0 in (
      record { node = node; request = told.0; told = either_told (is_piece r.told) r.told refl told.1 name are },
      omega (arith, length-reply_body r, leb-true _ _ sized.1),
    )

-- ---- what keeps the rules

entries_of_none : (n : ℕ) (es : List Entry) → Chain (Follows n n) None es → es ≡ []
entries_of_none n [] chain = refl
entries_of_none n (e ∷ es) chain = absurd (omega (arith, chain.0.above, chain.0.within))

same_end : (from to : ℕ) → nat_lt from to ≡ false → from ≤ to → from ≡ to
same_end from to h le = omega (arith, ltb-false from to h)

told_passes : (b : Bool) (c : Contribution) → nat_lt c.from c.to ≡ b → IsTold true c → length (piece_body c) ≤ 16777216 → IsTrue (is_piece c || is_no_commit c)
told_passes true c e is small =
    let piece : IsPiece c = record {
      name = is.name;
      admitted = is.admitted;
      range = ltb-true _ _ e;
      last = (range_small true c.from c.to is.range).1;
      count = is.count;
      entries = is.entries;
    } in
    rw (piece_passes c piece small) refl
told_passes false c e is small =
    let range = range_small true c.from c.to is.range in
    let same : c.from ≡ c.to = same_end c.from c.to e range.0 in
    let none : c.entries ≡ [] = entries_of_none c.to c.entries (subst (λ (n : ℕ). Chain (Follows n c.to) None c.entries) same is.entries) in
    let len : (length c.entries == 0) ≡ true = eq-eqb (length c.entries) 0 (ap (λ (es : List Entry). length es) none) in
    let is_none : IsTrue (is_no_commit c) = and_from _ _ is.admitted (and_from _ _ (eq-eqb c.from c.to same) (and_from _ _ (le-leb _ _ range.1) len)) in
    or_right (is_piece c) (is_no_commit c) is_none
  where
    or_right : (a b : Bool) → IsTrue b → IsTrue (a || b)
    or_right true b h = refl
    or_right false b h = h

pub reply_passes : (r : RefreshReply) → IsRefreshReply r → length (refresh_reply_body r) ≤ 16777216 → IsTrue (is_refresh_reply r)
unfolding is_refresh_reply
reply_passes r is small =
    let size : 13 + body_size r.told.proc r.told.entries ≤ 16777216 = omega (arith, length-reply_body r, small) in
    let told = told_passes (nat_lt r.told.from r.told.to) r.told refl is.told (omega (arith, length-piece_body r.told, size)) in
    and_from _ _ (and_from _ _ is.request told) (le-leb _ _ size)

pub are_replies : AreReplies
are_replies r node name are = (reply_says r node name are, λ says. reply_passes r says.0 says.1)

-- what is read as told, in bytes that a reply may have, passes
pub read_reply_passes : (node request : ℕ) (at : Place) (c : Contribution) (after : Place) → node ≤ 63 → IsTrue (is_request request) → IsBytes at.rest → length at.rest + 13 ≤ 16777216
    → read_told true at ≡ Ok (c, after) → IsTrue (is_refresh_reply (refresh_reply node request c))
read_reply_passes node request at c after small number fits few e =
    let taken = (told_if true at fits).holds c after e in
    let r : RefreshReply = refresh_reply node request c in
    reply_passes r (record { node = small; request = number; told = taken.is })
    (omega (arith, ap (λ (t : List ℕ). length t) taken.takes.parts, length-append (piece_body c) after.rest, length-append (asker_spelling node request true) (piece_body c), few))

-- ---- which of the two it is

pub told_of : (r : RefreshReply) → IsTrue (is_refresh_reply r) → IsTrue (is_piece r.told || is_no_commit r.told)
unfolding is_refresh_reply
told_of r is = (and_parts _ _ (and_parts _ _ is).0).1

-- a piece is of some commits
pub piece_rises : (c : Contribution) → IsTrue (is_piece c) → nat_lt c.from c.to ≡ true
unfolding is_piece
piece_rises c is = (and_parts _ _ (and_parts _ _ (and_parts _ _ (and_parts _ _ (and_parts _ _ is).0).0).0).1).0

-- and has no more entries than a frame can hold
pub piece_few : (c : Contribution) → IsTrue (is_piece c) → length c.entries ≤ 65536
unfolding is_piece
piece_few c is = leb-true _ _ (and_parts _ _ (and_parts _ _ (and_parts _ _ (and_parts _ _ is).0).0).1).0

pub told_few : (c : Contribution) → IsTrue (is_piece c || is_no_commit c) → length c.entries ≤ 65536
told_few c is = by_test (is_piece c) refl is
  where
    by_test : (b : Bool) → is_piece c ≡ b → IsTrue (b || is_no_commit c) → length c.entries ≤ 65536
    by_test true e h = piece_few c e
    by_test false e h = omega (arith, ap (λ (es : List Entry). length es) (no_commit_is c h).2)

-- what is told of some commits is a piece
pub told_some : (c : Contribution) → IsTrue (is_piece c || is_no_commit c) → c.from < c.to → IsTrue (is_piece c)
told_some c is less = by_test (is_piece c) refl is
  where
    by_test : (b : Bool) → is_piece c ≡ b → IsTrue (b || is_no_commit c) → IsTrue (is_piece c)
    by_test true e h = e
    by_test false e h = absurd (omega (arith, (no_commit_is c h).0, less))

-- what is told as a piece
pub piece_reply : (node request : ℕ) (c : Contribution) → is_piece c ≡ true → is_refresh_reply (refresh_reply node request c) ≡ (is_request request && nat_le (13 + body_size c.proc c.entries) 16777216)
unfolding is_refresh_reply
piece_reply node request c is = rw is (regroup (is_request request) (nat_le (13 + body_size c.proc c.entries) 16777216))
  where
    regroup : (a s : Bool) → (a && true && s) ≡ (a && s)
    regroup true s = refl
    regroup false s = refl

-- what is told of no commit
pub nothing_reply : (node request : ℕ) (p : Proc) (n : ℕ)
    → is_refresh_reply (refresh_reply node request (no_commits p n)) ≡ (is_ask (commit_ask 0 p n) && (is_request request && nat_le (13 + (length p.nspace + 25)) 16777216))
unfolding is_refresh_reply
nothing_reply node request p n =
    rw (no_piece (is_piece (no_commits p n)) (λ e. piece_rises (no_commits p n) e), eq-eqb n n refl, add-zero (length p.nspace + 25))
    (regroup (is_request request) (is_client p || is_host p) (nat_le n 4294967295) (nat_le (13 + (length p.nspace + 25)) 16777216))
  where
    no_piece : (b : Bool) → (b ≡ true → nat_lt n n ≡ true) → b ≡ false
    no_piece true h = absurd (omega (arith, ltb-true n n (h refl)))
    no_piece false h = refl

    regroup : (a p l s : Bool) → (a && (p && (l && true)) && s) ≡ (p && l && (a && s))
    regroup true true true s = refl
    regroup true true false s = refl
    regroup true false l s = refl
    regroup false true true s = refl
    regroup false true false s = refl
    regroup false false l s = refl

-- and in a body that is not too long
pub reply_small : (r : RefreshReply) → IsTrue (is_refresh_reply r) → 13 + body_size r.told.proc r.told.entries ≤ 16777216
unfolding is_refresh_reply
reply_small r is = leb-true _ _ (and_parts _ _ is).1
