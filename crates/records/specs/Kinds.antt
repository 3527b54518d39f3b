-- The limits of the fields of each kind of job.
use Rattle.std.specs.Prelude.{List, [], ◌∷◌}
use Rattle.records.specs.declared.field.Span.{Span}

-- A time is 0 to 1,000,000 minutes, and a work 1 at least.
abbrev pub time : Span
time = record { least = 0; most = 1000000 }

abbrev pub work : Span
work = record { least = 1; most = 1000000 }

-- Nothing but 0.
abbrev pub nothing : Span
nothing = record { least = 0; most = 0 }

-- One machine: head, work, tail and zero.
abbrev pub machine_spans : List Span
machine_spans = time ∷ work ∷ time ∷ nothing ∷ []

-- Flow shop: the works at three stations and zero.
abbrev pub flow_spans : List Span
flow_spans = work ∷ work ∷ work ∷ nothing ∷ []
