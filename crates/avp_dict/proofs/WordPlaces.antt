-- How the words and lines of a file are counted off, one by one.
use Rattle.std.proofs.Common.{◌≡◌, ◌≤◌, ◌<◌, ℕ, Bool, suc, ◌+◌, ◌-◌, List, length, refl, arith, length-drop}
use Rattle.std.specs.List.{after_first, position_or_len}
use Rattle.avp_dict.specs.Lines.{is_line_end}
use Rattle.avp_dict.specs.WordPlaces.{after_lines, from_filled, from_word}
use Rattle.avp_dict.specs.Words.{is_blank}

pub next_word : (word done : ℕ) (octets : List ℕ) → done < word → from_word (word - done) octets ≡ from_word (word - (done + 1)) (after_first is_blank (from_filled octets))
next_word word done octets h = let e : word - done ≡ suc (word - (done + 1)) = omega (arith, h) in rw e refl

pub last_word : (word done : ℕ) (octets : List ℕ) → word ≤ done → from_word (word - done) octets ≡ from_filled octets
last_word word done octets h = let e : word - done ≡ 0 = omega (arith, h) in rw e refl

pub next_line : (lines done : ℕ) (octets : List ℕ) → done < lines → after_lines (lines - done) octets ≡ after_lines (lines - (done + 1)) (after_first is_line_end octets)
next_line lines done octets h = let e : lines - done ≡ suc (lines - (done + 1)) = omega (arith, h) in rw e refl

pub no_line : (lines done : ℕ) (octets : List ℕ) → lines ≤ done → after_lines (lines - done) octets ≡ octets
no_line lines done octets h = let e : lines - done ≡ 0 = omega (arith, h) in rw e refl

pub after_shorter : (p : ℕ → Bool) (octets : List ℕ) → length (after_first p octets) ≤ length octets
after_shorter p octets = omega (arith, length-drop (position_or_len p octets + 1) octets)
