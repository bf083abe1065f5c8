-- Parts of a path of ASCII.
use Rattle.std.proofs.Common.{◌≡◌, ℕ, zero, suc, ◌-◌, ◌<◌, Bool, true, false, cond, List, [], ◌∷◌, length, take, drop, leb, ◌&&◌, refl, subst, arith, lit<, IsAscii, IsUtf8}
use Rattle.std.specs.Char.{is_ascii}
use Rattle.std.specs.List.{list_all}
use Rattle.std.proofs.lemmas.Bool.Decides.{nat_tests}
use Rattle.std.proofs.lemmas.Str.{IsAscii-take, IsAscii-drop, IsUtf8-from_ascii}
use Rattle.matchit.specs.Params.{part_of, walk}

first_test : (a b : Bool) → (a && b) ≡ true → a ≡ true
first_test true b h = refl
first_test false b h = h

second_test : (a b : Bool) → (a && b) ≡ true → b ≡ true
second_test true b h = h
second_test false b h = absurd (cc)

ascii_byte : (x : ℕ) → is_ascii x ≡ true → x < 128
ascii_byte x h = grind (arith, nat_tests)

pub ascii_from_all : (xs : List ℕ) → list_all is_ascii xs ≡ true → IsAscii xs
ascii_from_all [] h i = lit< tt
ascii_from_all (x ∷ xs) h zero = ascii_byte x (first_test (is_ascii x) (list_all is_ascii xs) h)
ascii_from_all (x ∷ xs) h (suc i) = ascii_from_all xs (second_test (is_ascii x) (list_all is_ascii xs) h) i

part_is_text : (path : List ℕ) (a b : ℕ) → IsAscii path → IsUtf8 (part_of path a b)
part_is_text path a b h = by (leb a b && leb b (length path))
  where
    by : (t : Bool) → IsUtf8 (cond t (take (b - a) (drop a path)) [])
    by true = IsUtf8-from_ascii _ (IsAscii-take _ _ (IsAscii-drop _ _ h))
    by false = IsUtf8-from_ascii [] (λ i. lit< tt)

-- each part is a text
abbrev pub AreTexts : List (List ℕ × List ℕ) → Type 0
AreTexts [] = Unit {0}
AreTexts (p ∷ rest) = IsUtf8 p.1 × AreTexts rest

-- the parts of a walk along a path of ASCII are texts
pub walk_texts : (pattern text path : List ℕ) (names : List (ℕ × ℕ)) (token at : ℕ) → IsAscii path → AreTexts (walk pattern text path names token at)
walk_texts pattern text path [] token at h = tt
walk_texts pattern text path (name ∷ names) token at h = (part_is_text path _ _ h, walk_texts pattern text path names _ _ h)

-- so are those of a walk that is known
pub texts_of : (pattern text path : List ℕ) (names : List (ℕ × ℕ)) (parts : List (List ℕ × List ℕ)) → walk pattern text path names 0 0 ≡ parts → IsAscii path → AreTexts parts
texts_of pattern text path names parts e h = subst AreTexts e (walk_texts pattern text path names 0 0 h)
