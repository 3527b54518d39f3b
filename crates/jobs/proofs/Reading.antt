-- Reading rows one after the other, and reading again what was written.
use Rattle.std.proofs.Common.{◌≡◌, ℕ, ◌+◌, ◌<◌, ◌≤◌, List, [], ◌∷◌, ◌++◌, map, length, get_or, take, None, Ok, Err, MatchResult, sym, ◌∙◌, arith}
use Rattle.std.proofs.lemmas.List.{take-map, get_or-map, get_or-take, length-map, length-take, map_push, map_more, same_lists}
use Rattle.std.proofs.lemmas.List.Elements.{All-map}
use Rattle.model.specs.declared.refusal.Refusal.{Refusal}
use Rattle.model.specs.Returned.{returned}
use Rattle.records.specs.declared.field.Span.{Span}
use Rattle.records.specs.Fields.{Four, Lawful, Fault}
use Rattle.records.specs.Bytes.{fields_of}
use Rattle.records.proofs.Words.{Bytes}
use Rattle.jobs.specs.Files.{rows_in, file_of, FirstFault, Whole, Holds, Read, ReadsBack}
use Rattle.jobs.proofs.Refusing.{held_unrefused}
use Rattle.jobs.proofs.RoundTrip.{file_rows, rows_file, length_file}

module _ {J : Type 0} (spans : List Span) (row : J → List ℕ) (records : List (List ℕ)) (js : List J) (i : ℕ)
    (inv : map row js ≡ map fields_of (take i records)) where
  -- after one job more, whose fields are those of the next record, the rows read are those of one record more
  pub rows_more : (js' : List J) (j : J) (fs : List ℕ) → i < length records → js' ≡ js ++ j ∷ [] → row j ≡ fs → fs ≡ fields_of (get_or records i [])
      → map row js' ≡ map fields_of (take (i + 1) records)
  rows_more js' j fs h e f g = rw (e, map_push, map_more fields_of records i [] h, inv, f, g)

  -- the next record is the first faulty one
  pub fault_next : (fs : List ℕ) (e : Refusal) → i < length records → ((j : J) → Lawful spans (row j)) → fs ≡ fields_of (get_or records i [])
      → Fault spans (i + 1) fs e → FirstFault spans (map fields_of records) e
  fault_next fs e h lawful g f =
      let rows : map row js ≡ take i (map fields_of records) = inv ∙ sym (take-map fields_of i records) in
      record {
        at = i;
        within = grind (arith, length-map);
        before = λ k l. rw (← get_or-take i (map fields_of records) k [] l, ← rows) (All-map (Lawful spans) row js (λ _ d _. lawful _) k [] (grind (arith, length-take, length-map)));
        fault = rw (get_or-map fields_of records i [] [] h, ← g) f;
      }

-- what is read holds the file
pub file_held : {J : Type 0} (spans : List Span) (row : J → List ℕ) (js : List J) (b : List ℕ) → ((j : J) → Lawful spans (row j)) → Bytes b
    → Whole b → length b ≤ 2048 → map row js ≡ rows_in b → Holds spans (map row js) b
file_held spans row js b lawful small w few e = search (arith, All-map (Lawful spans) row js (λ _ d _. lawful _), file_rows b w.whole small)

-- jobs with the same rows are the same
same_jobs : {J : Type 0} (row : J → List ℕ) → ((i j : J) → row i ≡ row j → i ≡ j) → (js ks : List J) → map row js ≡ map row ks → js ≡ ks
same_jobs row same js ks e =
    let long : length js ≡ length ks = grind (arith, length-map js row, length-map ks row) in
    same_lists js ks long (λ k d h. same _ _ (grind (arith, get_or-map row js k d [], get_or-map row ks k d [])))

-- what is written is read again
pub read_back : {J : Type 0} (spans : List Span) (row : J → List ℕ) → ((j : J) → Four (row j)) → ((j : J) → Lawful spans (row j)) → ((i j : J) → row i ≡ row j → i ≡ j)
    → (js : List J) (b : List ℕ) → length js ≤ 128 → b ≡ file_of (map row js) → ReadsBack spans row js b
read_back spans row four lawful same js b few e ks ks' r some =
    let shaped = All-map Four row js (λ _ d _. four _) in
    let held : Holds spans (map row js) b = search (arith, length-map js row, length_file (map row js) shaped, rows_file (map row js) shaped, All-map (Lawful spans) row js (λ _ d _. lawful _)) in
    elim r as (λ r. Read spans row ks ks' b r → MatchResult r (λ _. ks' ≡ js) (λ e. returned e ≡ None)) [
      | Ok u ↦ λ h. same_jobs row same ks' js (h.read ∙ sym held.read)
      | Err f ↦ λ h. held_unrefused spans (map row js) b f held h.1
    ]
