-- Records there and back.
use Rattle.std.proofs.Common.{◌≡◌, ℕ, zero, suc, ◌+◌, ◌*◌, ◌<◌, ◌≤◌, List, [], ◌∷◌, map, length, get_or, take, drop, refl, ◌∙◌, zero-mul, arith, rules, take-add}
use Rattle.std.specs.Simd.{first_chunks}
use Rattle.std.specs.List.{flat_map, All}
use Rattle.std.proofs.lemmas.Grind.{common_steps}
use Rattle.std.proofs.lemmas.List.{take_all, length-drop, length-take-le}
use Rattle.std.proofs.lemmas.List.Elements.{All-take, All-drop}
use Rattle.std.proofs.lemmas.List.Folds.{flat_map-map}
use Rattle.std.proofs.lemmas.Nat.{from_le_bytes-to_le_bytes_4, le_bytes_4}
use Rattle.records.specs.Bytes.{number, word, fields_of, record_of}
use Rattle.records.specs.Fields.{Four}

-- bytes
abbrev pub Bytes : List ℕ → Type 0
Bytes b = All (λ n. n < 256) b

number_word : (n : ℕ) → n < 4294967296 → number (word n) ≡ n
number_word = from_le_bytes-to_le_bytes_4

byte_at : (w : List ℕ) → Bytes w → (i : ℕ) → get_or w i 0 < 256
byte_at w h i = search (rules, common_steps)

word_number : (w : List ℕ) → length w ≡ 4 → Bytes w → word (number w) ≡ w
word_number w l h = le_bytes_4 w (number w) l (byte_at w h) refl

-- four fields written and read
pub fields_record : (fs : List ℕ) → Four fs → fields_of (record_of fs) ≡ fs
fields_record (a ∷ b ∷ c ∷ d ∷ []) h =
    let back = λ (i : ℕ) (l : i < 4). number_word (get_or (a ∷ b ∷ c ∷ d ∷ []) i 0) (h.small i 0 l) in
    cc (back 0 (omega arith), back 1 (omega arith), back 2 (omega arith), back 3 (omega arith))
fields_record fs h = absurd (omega (arith, h.long))

-- each of the first k parts of n bytes, turned and joined again
pub rejoined : (n : ℕ) (f : List ℕ → List ℕ) → ((w : List ℕ) → length w ≡ n → Bytes w → f w ≡ w)
    → (k : ℕ) (b : List ℕ) → k * n ≤ length b → Bytes b → flat_map f (first_chunks n k b) ≡ take (k * n) b
rejoined n f same zero b l h = rw zero-mul
rejoined n f same (suc k) b l h =
    let more : suc k * n ≡ n + k * n = omega arith in
    let first = same (take n b) (length-take-le n b (omega arith)) (All-take (λ x. x < 256) n b h) in
    let rest = rejoined n f same k (drop n b) (omega (arith, length-drop n b)) (All-drop (λ x. x < 256) n b h) in
    cc (take-add n (k * n) b)

pub joined_map : {X : Type 0} (f : X → List ℕ) (g : List ℕ → X) (ws : List (List ℕ)) → flat_map f (map g ws) ≡ flat_map (λ w. f (g w)) ws
joined_map = flat_map-map

pub record_fields : (r : List ℕ) → length r ≡ 16 → Bytes r → record_of (fields_of r) ≡ r
record_fields r l h = joined_map word number (first_chunks 4 4 r) ∙ rejoined 4 (λ w. word (number w)) word_number 4 r (omega arith) h ∙ take_all 16 r (omega arith)

-- the length of a record
pub length_record : (fs : List ℕ) → Four fs → length (record_of fs) ≡ 16
length_record fs h = search (rules, common_steps)
