-- Two proofs that a number keeps a limit are the same, along an equation of numbers.
use Rattle.std.specs.Prelude.{◌≡◌, ℕ, ◌≤◌, List, slice_index}
use Rattle.std.proofs.Common.{ap}
use Rattle.std.proofs.Math.Path.{PathP}
use Rattle.std.proofs.Math.Bridge.{le_prop}
use mathlib.Core.HLevel.{is_prop→PathP}

pub low_path : (l : ℕ) {a b : ℕ} (p : a ≡ b) (x : l ≤ a) (y : l ≤ b) → PathP (λ k. l ≤ p k) x y
low_path l p x y = is_prop→PathP (λ k. l ≤ p k) (λ k. le_prop) x y

pub high_path : (m : ℕ) {a b : ℕ} (p : a ≡ b) (x : a ≤ m) (y : b ≤ m) → PathP (λ k. p k ≤ m) x y
high_path m p x y = is_prop→PathP (λ k. p k ≤ m) (λ k. le_prop) x y

-- The same for the field at an index, along an equation of rows of fields.
module _ {fs gs : List ℕ} (e : fs ≡ gs) (n : ℕ) {limit : ℕ} where
  pub low_field : (x : limit ≤ slice_index fs n) (y : limit ≤ slice_index gs n) → PathP (λ k. limit ≤ slice_index (e k) n) x y
  low_field = low_path limit (ap (λ (xs : List ℕ). slice_index xs n) e)

  pub high_field : (x : slice_index fs n ≤ limit) (y : slice_index gs n ≤ limit) → PathP (λ k. slice_index (e k) n ≤ limit) x y
  high_field = high_path limit (ap (λ (xs : List ℕ). slice_index xs n) e)
