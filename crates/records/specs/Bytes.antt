-- Records as bytes: four numbers of four bytes, the low byte first.
use Rattle.std.specs.Prelude.{ℕ, ◌+◌, ◌*◌, ◌/◌, ◌%◌, List, [], ◌∷◌, map, slice_index}
use Rattle.std.specs.Simd.{first_chunks}
use Rattle.std.specs.List.{flat_map}

-- The number that four bytes hold, and the four bytes of a number.
abbrev pub number : List ℕ → ℕ
number w = slice_index w 0 + slice_index w 1 * 256 + slice_index w 2 * 65536 + slice_index w 3 * 16777216

abbrev pub word : ℕ → List ℕ
word n = (n % 256) ∷ (n / 256 % 256) ∷ (n / 65536 % 256) ∷ (n / 16777216 % 256) ∷ []

-- The four fields of a record, and the record of four fields.
abbrev pub fields_of : List ℕ → List ℕ
fields_of r = map number (first_chunks 4 4 r)

abbrev pub record_of : List ℕ → List ℕ
record_of fs = flat_map word fs
