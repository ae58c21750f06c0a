-- What a word stands for, and what the reader and the writer answer.
use Rattle.std.specs.Prelude.{◌≡◌, ℕ, ◌+◌, ◌-◌, ◌*◌, ◌/◌, ◌%◌, ◌^◌, ◌<◌, List, [], ℤ, pos, ◌-ℤ◌, Ok, Err, Result, ◌≢◌}
use Rattle.section.specs.Bars.{Numbered}
use Rattle.std.specs.List.{AllByRecursion}
use Rattle.words.specs.Streams.{Cut}
use Rattle.words.specs.declared.entry.Entry.{Entry}
use Rattle.words.specs.declared.entry.Entry.TheVariants.{Open, Lay, Place, Lift, Axial, Moment, Solve}
use Rattle.words.specs.declared.kind.Kind.{Kind}
use Rattle.words.specs.declared.kind.Kind.TheVariants as kinds
use Rattle.words.specs.declared.fault.Fault.{Fault}
use Rattle.words.specs.declared.fault.Fault.TheVariants.{Unreadable, Unwritable}

-- the number in the bits from high down to low
abbrev pub bits : ℕ → ℕ → ℕ → ℕ
bits w high low = w / 2 ^ low % 2 ^ (high + 1 - low)

-- the number in the lowest n bits
abbrev pub lowest : ℕ → ℕ → ℕ
lowest w n = w % 2 ^ n

-- the code of a kind
abbrev pub code_of : Kind → ℕ
code_of kinds.Open = 1
code_of kinds.Lay = 2
code_of kinds.Place = 3
code_of kinds.Lift = 4
code_of kinds.Axial = 5
code_of kinds.Moment = 6
code_of kinds.Solve = 7

-- the code of a word's kind: what is above the lowest 28 bits
abbrev pub kind : ℕ → ℕ
kind w = w / 2 ^ 28

-- 28 bits in two's complement: the top one counts as negative
abbrev pub signed28 : ℕ → ℤ
signed28 n = pos (n % 2 ^ 27) -ℤ pos (n / 2 ^ 27 * 2 ^ 27)

-- the word w stands for the entry: its kind and its fields say so, and no bit beside them is set
abbrev pub Stands : Entry → ℕ → Type 0
Stands (Open fc fy) w = (kind w ≡ code_of kinds.Open) × (fc ≡ pos (100 * bits w 27 14)) × (fy ≡ pos (100 * lowest w 14))
Stands (Lay thickness width) w = (kind w ≡ code_of kinds.Lay) × (thickness ≡ pos (bits w 27 14)) × (width ≡ pos (lowest w 14))
Stands (Place bar count depth) w =
    (kind w ≡ code_of kinds.Place) × (bits w 27 24 ≡ 0) × Numbered bar (bits w 23 20) × (count ≡ pos (bits w 19 14)) × (depth ≡ pos (lowest w 14))
Stands (Lift row) w = (kind w ≡ code_of kinds.Lift) × (row ≡ pos (lowest w 28))
Stands (Axial pu) w = (kind w ≡ code_of kinds.Axial) × (pu ≡ signed28 (lowest w 28))
Stands (Moment member mu) w = (kind w ≡ code_of kinds.Moment) × (member ≡ pos (bits w 27 26)) × (mu ≡ pos (lowest w 26))
Stands Solve w = (kind w ≡ code_of kinds.Solve) × (lowest w 28 ≡ 0)

-- the kind with a code, or that there is none
abbrev pub Coded : ℕ → Result Kind Fault → Type 0
Coded code (Ok k) = code ≡ code_of k
Coded code (Err f) = ((k : Kind) → code ≢ code_of k) × (f ≡ Unreadable)

-- the reader's answer at a word: an entry that it stands for, or that there is none
abbrev pub Read : ℕ → Result Entry Fault → Type 0
Read w (Ok e) = Stands e w
Read w (Err f) = ((e : Entry) → Stands e w → ⊥) × (f ≡ Unreadable)

-- the writer's answer at an entry: a word that stands for it, or that there is none
abbrev pub Written : Entry → Result ℕ Fault → Type 0
Written e (Ok w) = Stands e w
Written e (Err f) = ((w : ℕ) → Stands e w → ⊥) × (f ≡ Unwritable)

-- A readable word stands for exactly one entry. Let r be read at w: each entry that w stands for is r, and where q is
-- written at e, r is e exactly where q is w.
pub record OneEntry (w : ℕ) (r : Result Entry Fault) : Type 0 where
  pub alone : (e : Entry) → Stands e w → r ≡ Ok e
  pub written_back : (e : Entry) (q : Result ℕ Fault) → Written e q → r ≡ Ok e → q ≡ Ok w
  pub read_back : (e : Entry) (q : Result ℕ Fault) → Written e q → q ≡ Ok w → r ≡ Ok e

-- An entry that fits a word has that word alone. Let q be written at e: each word that stands for e is q, and where r is
-- read at w, q is w exactly where r is e.
pub record OneWord (e : Entry) (q : Result ℕ Fault) : Type 0 where
  pub alone : (w : ℕ) → Stands e w → q ≡ Ok w
  pub read_back : (w : ℕ) (r : Result Entry Fault) → Read w r → q ≡ Ok w → r ≡ Ok e
  pub written_back : (w : ℕ) (r : Result Entry Fault) → Read w r → r ≡ Ok e → q ≡ Ok w

-- a readable stream: no byte is left over, and each of its words stands for an entry
pub record Readable (stream : List ℕ) : Type 0 where
  pub words : List ℕ
  pub whole : Cut stream words []
  pub each : AllByRecursion (λ w. (e : Entry) × Stands e w) words

-- the number z as a field below a limit, or that it is none
abbrev pub Field : ℕ → ℤ → Result ℕ Fault → Type 0
Field limit z (Ok n) = (n < limit) × (z ≡ pos n)
Field limit z (Err f) = ((n : ℕ) → n < limit → z ≢ pos n) × (f ≡ Unwritable)

-- the number z as a field in hundreds, or that it is none
abbrev pub Hundreds : ℕ → ℤ → Result ℕ Fault → Type 0
Hundreds limit z (Ok n) = (n < limit) × (z ≡ pos (100 * n))
Hundreds limit z (Err f) = ((n : ℕ) → n < limit → z ≢ pos (100 * n)) × (f ≡ Unwritable)

-- the position in the table of the bar numbered z, or that there is none
abbrev pub Position : ℤ → Result ℕ Fault → Type 0
Position z (Ok n) = Numbered z n
Position z (Err f) = ((n : ℕ) → Numbered z n → ⊥) × (f ≡ Unwritable)
