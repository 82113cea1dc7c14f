-- Where the words of objects stand: no two at one place. Assumes nothing.
use Prim.Native.Nat.{ℕ, ◌*◌, ◌≤◌, ◌<◌}
use native.Mathlib.Omega.{arith}
use mathlib.Core.Path.{◌≡◌}
use Rattle.pages.specs.Geometry.{page_at, object_at, page_of, slot_of, page_words, object_count, slot_count}

pub slot_small : (o : ℕ) → slot_of o < slot_count
slot_small o = omega arith

pub same_object : (o x : ℕ) → 1 ≤ o → 1 ≤ x → page_of x ≡ page_of o → slot_of x ≡ slot_of o → x ≡ o
same_object o x ho hx p s = omega arith

pub page_small : (n o : ℕ) → 1 ≤ o → o ≤ object_count n → page_of o < n
page_small n o h l = omega arith

pub map_inside : (n p : ℕ) → p < n → page_at p < page_words * n
map_inside n p h = omega arith

pub page_of_at : (p s : ℕ) → s < slot_count → page_of (object_at p s) ≡ p
page_of_at p s h = omega arith

pub slot_of_at : (p s : ℕ) → s < slot_count → slot_of (object_at p s) ≡ s
slot_of_at p s h = omega arith
