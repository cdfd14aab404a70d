-- Texts that are written one after another.
use Rattle.std.proofs.Common.{◌≡◌, ℕ, List, ◌++◌, Result, ap, ◌∙◌, append_assoc}
use Rattle.std.specs.Prelude.{OnOk}
use Rattle.std.proofs.lemmas.Result.{on_ok_weaker}

pub appended_2 : (o x y a b : List ℕ) → x ≡ o ++ a → y ≡ x ++ b → y ≡ o ++ (a ++ b)
appended_2 o x y a b p q = q ∙ ap (λ (t : List ℕ). t ++ b) p ∙ append_assoc o a b

-- the same where the second one is written without a fault
pub then_appended : {T E : Type 0} (r : Result T E) (o x y a b : List ℕ) → x ≡ o ++ a → OnOk r (y ≡ x ++ b) → OnOk r (y ≡ o ++ (a ++ b))
then_appended r o x y a b p put = on_ok_weaker r (λ q. appended_2 o x y a b p q) put

pub appended_3 : (o x y z a b c : List ℕ) → x ≡ o ++ a → y ≡ x ++ b → z ≡ y ++ c → z ≡ o ++ (a ++ (b ++ c))
appended_3 o x y z a b c p q r = appended_2 o x z a (b ++ c) p (appended_2 x y z b c q r)

pub appended_5 : (o x y z u v a b c d e : List ℕ) → x ≡ o ++ a → y ≡ x ++ b → z ≡ y ++ c → u ≡ z ++ d → v ≡ u ++ e → v ≡ o ++ (a ++ (b ++ (c ++ (d ++ e))))
appended_5 o x y z u v a b c d e p q r s t =
    appended_2 o x v a (b ++ (c ++ (d ++ e))) p (appended_2 x y v b (c ++ (d ++ e)) q (appended_2 y z v c (d ++ e) r (appended_2 z u v d e s t)))

pub appended_4 : (o x y z u a b c d : List ℕ) → x ≡ o ++ a → y ≡ x ++ b → z ≡ y ++ c → u ≡ z ++ d → u ≡ o ++ (a ++ (b ++ (c ++ d)))
appended_4 o x y z u a b c d p q r s = appended_2 o x u a (b ++ (c ++ d)) p (appended_2 x y u b (c ++ d) q (appended_2 y z u c d r s))
