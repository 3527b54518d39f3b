-- Files there and back.
use Rattle.std.proofs.Common.{◌≡◌, ℕ, ◌*◌, ◌/◌, ◌%◌, List, [], ◌∷◌, map, length, refl, arith}
use Rattle.std.specs.Simd.{first_chunks}
use Rattle.std.specs.List.{All}
use Rattle.std.proofs.lemmas.Grind.{common_steps}
use Rattle.std.proofs.lemmas.List.{take_all, take_at, drop_at}
use Rattle.std.proofs.lemmas.List.Elements.{All-head, All-tail}
use Rattle.records.specs.Bytes.{fields_of, record_of}
use Rattle.records.specs.Fields.{Four}
use Rattle.records.proofs.Words.{Bytes, fields_record, rejoined, joined_map, record_fields, length_record}
use Rattle.jobs.specs.Files.{rows_in, file_of}

-- a file of whole records, read and written
pub file_rows : (b : List ℕ) → length b % 16 ≡ 0 → Bytes b → file_of (rows_in b) ≡ b
file_rows b l h = rw (joined_map, rejoined 16 (λ r. record_of (fields_of r)) record_fields (length b / 16) b (omega arith) h, take_all (length b / 16 * 16) b (omega arith))

-- rows written and read
pub length_file : (rows : List (List ℕ)) → All Four rows → length (file_of rows) ≡ length rows * 16
length_file [] h = refl
length_file (fs ∷ rows) h = grind (arith, common_steps, length_record fs (All-head Four fs rows h), length_file rows (All-tail Four fs rows h))

chunked_file : (rows : List (List ℕ)) → All Four rows → map fields_of (first_chunks 16 (length rows) (file_of rows)) ≡ rows
chunked_file [] h = refl
chunked_file (fs ∷ rows) h =
    let four = All-head Four fs rows h in
    let long = length_record fs four in
    rw (take_at, drop_at, chunked_file rows (All-tail Four fs rows h), fields_record)

pub rows_file : (rows : List (List ℕ)) → All Four rows → rows_in (file_of rows) ≡ rows
rows_file rows h = grind (arith, length_file rows h, chunked_file rows h)
