-- Tests of eight bytes at once.
use Rattle.std.proofs.Common.{◌≡◌, ℕ, Bool, true, false, ◌&&◌, List, [], ◌∷◌, length, get_or, refl, arith}
use Rattle.std.specs.List.{list_all}

-- tests in a row, and one after another
and_1 : (h : Bool) → (h && true) ≡ h
and_1 true = refl
and_1 false = refl

and_2 : (g h : Bool) → (g && (h && true)) ≡ (g && h)
and_2 true h = and_1 h
and_2 false h = refl

and_3 : (f g h : Bool) → (f && (g && (h && true))) ≡ ((f && g) && h)
and_3 true g h = and_2 g h
and_3 false g h = refl

and_4 : (e f g h : Bool) → (e && (f && (g && (h && true)))) ≡ (((e && f) && g) && h)
and_4 true f g h = and_3 f g h
and_4 false f g h = refl

and_5 : (d e f g h : Bool) → (d && (e && (f && (g && (h && true))))) ≡ ((((d && e) && f) && g) && h)
and_5 true e f g h = and_4 e f g h
and_5 false e f g h = refl

and_6 : (c d e f g h : Bool) → (c && (d && (e && (f && (g && (h && true)))))) ≡ (((((c && d) && e) && f) && g) && h)
and_6 true d e f g h = and_5 d e f g h
and_6 false d e f g h = refl

and_7 : (b c d e f g h : Bool) → (b && (c && (d && (e && (f && (g && (h && true))))))) ≡ ((((((b && c) && d) && e) && f) && g) && h)
and_7 true c d e f g h = and_6 c d e f g h
and_7 false c d e f g h = refl

and_8 : (a b c d e f g h : Bool) → (a && (b && (c && (d && (e && (f && (g && (h && true)))))))) ≡ (((((((a && b) && c) && d) && e) && f) && g) && h)
and_8 true b c d e f g h = and_7 b c d e f g h
and_8 false b c d e f g h = refl

module _ (p : ℕ → Bool) where
  -- all of eight
  pub all_eight : (xs : List ℕ) → length xs ≡ 8
      → list_all p xs ≡ (((((((p (get_or xs 0 0) && p (get_or xs 1 0)) && p (get_or xs 2 0)) && p (get_or xs 3 0)) && p (get_or xs 4 0)) && p (get_or xs 5 0)) && p (get_or xs 6 0)) && p (get_or xs 7 0))
  all_eight [] e = absurd (omega arith)
  all_eight (a ∷ []) e = absurd (omega arith)
  all_eight (a ∷ b ∷ []) e = absurd (omega arith)
  all_eight (a ∷ b ∷ c ∷ []) e = absurd (omega arith)
  all_eight (a ∷ b ∷ c ∷ d ∷ []) e = absurd (omega arith)
  all_eight (a ∷ b ∷ c ∷ d ∷ f ∷ []) e = absurd (omega arith)
  all_eight (a ∷ b ∷ c ∷ d ∷ f ∷ g ∷ []) e = absurd (omega arith)
  all_eight (a ∷ b ∷ c ∷ d ∷ f ∷ g ∷ h ∷ []) e = absurd (omega arith)
  all_eight (a ∷ b ∷ c ∷ d ∷ f ∷ g ∷ h ∷ i ∷ []) e = and_8 (p a) (p b) (p c) (p d) (p f) (p g) (p h) (p i)
  all_eight (a ∷ b ∷ c ∷ d ∷ f ∷ g ∷ h ∷ i ∷ j ∷ xs) e = absurd (omega arith)
