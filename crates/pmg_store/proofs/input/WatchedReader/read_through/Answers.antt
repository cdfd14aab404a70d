use Rattle.std.proofs.Common.{◌≡◌, ◌≢◌, ◌-◌, ◌≤◌, ℕ, List, All, length, take, arith, sym, subst, ◌∙◌, length-take-le, take-take}
use Rattle.std.specs.Io.{StopsAt}
use Rattle.std.specs.Io.BufRead.{FillKeeps}
use Rattle.std.proofs.BufReadLemmas.{Consumes_shown, zero_unless_positive}
use Rattle.std.proofs.Transfers.{StopsAt-take, drop-appended}
use Rattle.std.proofs.lemmas.List.Elements.{All-take}
use Rattle.pmg_store.proofs.input.WatchedReader.read_through.Goals as goal

-- fewer bytes of those that stop at the byte
stops_sooner : (xs : List ℕ) (byte m n : ℕ) → m ≤ length xs → n ≤ m → StopsAt (take m xs) byte → StopsAt (take n xs) byte
stops_sooner xs byte m n within fewer stops =
    StopsAt-take xs byte n (omega (arith, within, fewer)) (subst (All (λ x. x ≢ byte))
    (take-take (n - 1) (length (take m xs) - 1) (take m xs) (omega (arith, length-take-le m xs within, fewer)) ∙ take-take (n - 1) m xs (omega (arith, fewer)))
    (All-take (λ x. x ≢ byte) (n - 1) (take (length (take m xs) - 1) (take m xs)) stops))

pub returns-clause-stops : goal.returns-clause-stops
returns-clause-stops g c =
    let all = c.len_through.result in
    let fewer : c.min-count.result ≤ all = omega (arith, c.min-count.ensures) in
    subst (λ l. StopsAt l c.args.byte) (sym (drop-appended _ _ _ c.in_ok-extend_from_slice.ensures.items))
    (stops_sooner c.in-Ok.shown.now c.args.byte all c.min-count.result c.len_through.ensures.within fewer c.len_through.ensures.before)

pub returns-clause-end : goal.returns-clause-end
returns-clause-end g c = λ none.
    let zero : c.min-count.result ≡ 0 = cc in
    let rested = c.fill_buf.follows.lender-at-none in
    let filled = subst (FillKeeps _ (g.R.Read.remaining rested) (g.R.BufRead.consumable_len rested)) c.in-Ok.is c.fill_buf.follows.holds-at-none in
    let through : c.len_through.result ≡ 0 = omega (arith, zero, c.min-count.ensures, c.requires.some) in
    let empty = zero_unless_positive _ _ c.len_through.ensures.some through in
    (Consumes_shown _ _ _ _ c.in-Ok.shown.now c.min-count.result (omega (arith, zero)) c.in-Ok.ensures.front c.in-Ok.ensures.end filled.0 filled.1 c.consume.ensures.bytes).1 empty
