-- A listing line.
use Rattle.std.specs.Prelude.{◌≡◌, ℕ, ◌-◌, ◌≤◌, List, ◌++◌, length, Some, None, Ok, Err, string_bytes, codes, decimal, Option, Result, String}
use Rattle.std.specs.declared.alloc.Global.{Global}
use Rattle.std.specs.declared.alloc.AllocError.{AllocError}
use Rattle.machine.specs.declared.schedule.Slot.{Slot}
use Rattle.machine.specs.Schedule.{slot}

-- Job number, start and end in decimal, with one space between.
abbrev pub line_of : Slot → List ℕ
line_of s = decimal s.job ++ (codes " " ++ (decimal s.start ++ (codes " " ++ decimal s.end)))

-- The line at a place from 1.
pub record Line (slots : List Slot) (place : ℕ) (text : List ℕ) : Type 0 where
  pub low : 1 ≤ place
  pub high : place ≤ length slots
  pub text_is : text ≡ line_of (slot slots (place - 1))
  pub short : length text ≤ 64

-- The line at a place, none where there is no such place. Only want of memory keeps a line back.
abbrev pub Lined : List Slot → ℕ → Result (Option (String Global)) AllocError → Type 0
Lined slots place (Ok (Some t)) = Line slots place (string_bytes t)
Lined slots place (Ok None) = (1 ≤ place) → (place ≤ length slots) → ⊥
Lined slots place (Err e) = (1 ≤ place) × (place ≤ length slots)
