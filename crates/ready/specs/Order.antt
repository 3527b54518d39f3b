-- The order of ready jobs: the greatest tail first, and among equals the smallest number.
use Rattle.std.specs.Prelude.{◌≡◌, ℕ, ◌<◌, ◌≤◌, ◌⊎◌, List, [], Some, None, Option, All}
use Rattle.std.specs.declared.cmp.Ordering.{Ordering}
use Rattle.std.specs.Cmp.{IsTotalOrder, nat_cmp_total}
use Rattle.std.specs.Ordering.{nat_cmp, flip_args}
use Rattle.heap.specs.Order.{Heaped}
use Rattle.heap.specs.TwoKeys.{two_keys_cmp, by_keys, turned}
use Rattle.ready.specs.declared.ReadyJob.{ReadyJob}

abbrev pub tail_of : ReadyJob → ℕ
tail_of x = x.tail

abbrev pub job_of : ReadyJob → ℕ
job_of x = x.job

-- What a comparison of two ready jobs answers.
abbrev pub ready_job_cmp : ReadyJob → ReadyJob → Ordering
ready_job_cmp = two_keys_cmp (flip_args nat_cmp) nat_cmp tail_of job_of

-- That is a total order.
abbrev pub by_tail : IsTotalOrder ready_job_cmp
by_tail = by_keys (turned nat_cmp_total) nat_cmp_total tail_of job_of

-- x has a greater tail than y, or the same tail and no greater number.
abbrev pub Precedes : ReadyJob → ReadyJob → Type 0
Precedes x y = (y.tail < x.tail) ⊎ ((x.tail ≡ y.tail) × (x.job ≤ y.job))

-- No job that is ready has a greater tail than x, nor the same tail and a smaller number.
abbrev pub Leads : ReadyJob → List ReadyJob → Type 0
Leads x xs = All (Precedes x) xs

-- Which job starts next, where the jobs that are ready lie in heap order; none exactly where none is ready.
abbrev pub Starts : List ReadyJob → Option ReadyJob → Type 0
Starts xs None = xs ≡ []
Starts xs (Some x) = Heaped ready_job_cmp xs → Leads x xs
