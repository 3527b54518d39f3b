-- The jobs of one machine as rows of head, work and tail.
use Rattle.std.specs.Prelude.{ℕ, ◌-◌, ◌≤◌, List, map, slice_index_or}
use Rattle.records.specs.declared.machine_job.MachineJob.{MachineJob}
use Rattle.machine.specs.declared.row.Row.{Row}

-- The row of a listed job, and those of a list.
abbrev pub row_of : MachineJob → Row
row_of j = record { head = j.head; work = j.work; tail = j.tail }

abbrev pub rows_of : List MachineJob → List Row
rows_of js = map row_of js

-- What is read past the end of the rows.
abbrev pub blank : Row
blank = record { head = 0; work = 0; tail = 0 }

-- Jobs are numbered from 1: job j has the row at index j - 1.
abbrev pub row : List Row → ℕ → Row
row rows j = slice_index_or rows (j - 1) blank

abbrev pub head : List Row → ℕ → ℕ
head rows j = (row rows j).head

abbrev pub work : List Row → ℕ → ℕ
work rows j = (row rows j).work

abbrev pub tail : List Row → ℕ → ℕ
tail rows j = (row rows j).tail

-- No number of a listed job's row passes 1,000,000.
pub record Low (r : Row) : Type 0 where
  pub head_low : r.head ≤ 1000000
  pub work_low : r.work ≤ 1000000
  pub tail_low : r.tail ≤ 1000000
