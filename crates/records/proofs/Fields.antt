-- Lists of four fields.
use Rattle.std.proofs.Common.{◌≡◌, ℕ, ◌≤◌, List, [], ◌∷◌, length, slice_index, refl, sym, ap, arith}
use Rattle.records.specs.Bytes.{word, record_of}

-- four fields are the field at each index
pub four : (fs : List ℕ) → length fs ≡ 4 → fs ≡ slice_index fs 0 ∷ slice_index fs 1 ∷ slice_index fs 2 ∷ slice_index fs 3 ∷ []
four (a ∷ b ∷ c ∷ d ∷ []) h = refl
four fs h = absurd (omega arith)

-- four fields of which the last is zero at most are the first three of them and zero
pub three_and_zero : (fs : List ℕ) → length fs ≡ 4 → slice_index fs 3 ≤ 0 → slice_index fs 0 ∷ slice_index fs 1 ∷ slice_index fs 2 ∷ 0 ∷ [] ≡ fs
three_and_zero fs h z = grind (arith, four fs h)

-- the bytes of the words of four fields, one after the other, are the record of the fields
pub four_words : (fs a b c d : List ℕ) → length fs ≡ 4 → a ≡ word (slice_index fs 0) → b ≡ word (slice_index fs 1) → c ≡ word (slice_index fs 2) → d ≡ word (slice_index fs 3)
    → slice_index a 0 ∷ slice_index a 1 ∷ slice_index a 2 ∷ slice_index a 3 ∷ slice_index b 0 ∷ slice_index b 1 ∷ slice_index b 2 ∷ slice_index b 3
    ∷ slice_index c 0 ∷ slice_index c 1 ∷ slice_index c 2 ∷ slice_index c 3 ∷ slice_index d 0 ∷ slice_index d 1 ∷ slice_index d 2 ∷ slice_index d 3 ∷ [] ≡ record_of fs
four_words fs a b c d h p q r s = rw (p, q, r, s) (sym (ap record_of (four fs h)))
