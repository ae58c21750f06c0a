-- A stream is composed line by line, and ends with the text or at the first line that lacks something.
use Rattle.std.proofs.Common.{◌≡◌, ℕ, suc, ◌+◌, ◌<◌, List, [], ◌∷◌, ◌++◌, length, get_or, take, drop, Some, None, Ok, Err, Option, Result, sym, refl, ap, ◌∙◌, subst, inl, inr, add-one, zero-add, arith, MatchResult}
use denote.Ref.{Bor}
use Rattle.std.specs.declared.iter.Enumerate.{Enumerate}
use Rattle.std.specs.Iterator.{Yields, YieldsFirstRef}
use Rattle.std.specs.Iterator.Adapters.{enumerate_count, enumerate_source, enumerate_steps}
use Rattle.std.proofs.Math.Seq.{drop-cons}
use Rattle.std.proofs.lemmas.Iterator.Consumers.{YieldsList-end, YieldsList-from_enumerate, YieldsList-from_first, YieldsList-turn}
use Rattle.std.proofs.lemmas.List.FromFn.{get_or-enumerate_from, length-enumerate_from}
use Rattle.std.proofs.lemmas.List.{take_all, take_more, take-append-drop, length-take-le}
use Rattle.words.specs.Streams.{spread}
use Rattle.words.proofs.Streams.{spread_append}
use Rattle.text.specs.declared.lines.Lines.{Lines}
use Rattle.text.specs.Lines.{lines_left, text_left}
use Rattle.text.specs.Runs.{lines_of}
use Rattle.composing.specs.declared.compose.Failure.{Failure}
use Rattle.composing.specs.declared.compose.Failure.TheVariants.{Line}
use Rattle.composing.specs.declared.expected.Expected.{Expected}
use Rattle.composing.specs.Asking.{Answered}
use Rattle.composing.specs.Composing.{Asked, Composed, Reached, Refused}

-- a loop over the lines of a text, by their numbers: its turn is at the next line
pub this_line : (text : List ℕ) (s t u : Enumerate Lines) (done : List (ℕ × Bor (List ℕ))) (r : Option (ℕ × Bor (List ℕ))) (i : ℕ) (line : Bor (List ℕ)) → text_left (enumerate_source s) ≡ text → enumerate_count s ≡ 0 → Yields (enumerate_steps (YieldsFirstRef lines_left)) s done t → r ≡ Some (i, line) → enumerate_steps (YieldsFirstRef lines_left) t r u → (length done < length (lines_of text)) × (i ≡ length done) × (line.now ≡ get_or (lines_of text) (length done) line.now)
this_line text s t u done r i line e z yielded is step =
    let turn = YieldsList-turn (YieldsList-from_enumerate (YieldsList-from_first (λ x. x.now) lines_left (lines_of text) (ap lines_of e)) z) done t yielded r u (i, line) is step in
    let within : length done < length (lines_of text) = rw length-enumerate_from at turn.0 in
    let here = turn.1 ∙ get_or-enumerate_from 0 (lines_of text) (length done) (i, line.now) within in
    (within, ap (λ p. p.0) here ∙ zero-add (length done), ap (λ p. p.1) here)

-- and it ends after the last
pub every_line : (text : List ℕ) (s t u : Enumerate Lines) (done : List (ℕ × Bor (List ℕ))) (r : Option (ℕ × Bor (List ℕ))) → text_left (enumerate_source s) ≡ text → enumerate_count s ≡ 0 → Yields (enumerate_steps (YieldsFirstRef lines_left)) s done t → r ≡ None → enumerate_steps (YieldsFirstRef lines_left) t r u → length done ≡ length (lines_of text)
every_line text s t u done r e z yielded is step =
    let end = YieldsList-end (YieldsList-from_enumerate (YieldsList-from_first (λ x. x.now) lines_left (lines_of text) (ap lines_of e)) z) done t yielded r u is step in
    end.1 ∙ length-enumerate_from 0 (lines_of text)

-- the first n lines ask for words whose bytes are there
pub record SoFar (lines : List (List ℕ)) (n : ℕ) (bytes : List ℕ) : Type 0 where
  pub words : List ℕ
  pub asked : Asked (take n lines) words
  pub written : bytes ≡ spread words

asked_append : (ls ms : List (List ℕ)) (ws vs : List ℕ) → Asked ls ws → Asked ms vs → Asked (ls ++ ms) (ws ++ vs)
unfolding Asked
asked_append [] ms ws vs h g = rw h g
asked_append (l ∷ ls) ms ws vs h g =
    elim h [
      | inl s ↦ inl (s.0, asked_append ls ms ws vs s.1 g)
      | inr s ↦ inr (s.0, s.1 ++ vs, ap (λ us. us ++ vs) s.2, s.3, asked_append ls ms s.1 vs s.4 g)
    ]

pub so_far_none : (lines : List (List ℕ)) (bytes : List ℕ) → bytes ≡ [] → SoFar lines 0 bytes
unfolding Asked
so_far_none lines bytes e = record { words = []; asked = refl; written = e }

-- a line that is skipped asks for no word, and any other for one
pub asked_skipped : (line : List ℕ) → Answered line (Ok None) → Asked (line ∷ []) []
unfolding Asked
asked_skipped line a = inl (a, refl)

pub asked_word : (line : List ℕ) (w : ℕ) → Answered line (Ok (Some w)) → Asked (line ∷ []) (w ∷ [])
unfolding Asked
asked_word line w a = inr (w, [], refl, a, refl)

pub so_far_more : (lines : List (List ℕ)) (n : ℕ) (line bytes longer ws : List ℕ) → n < length lines → line ≡ get_or lines n line → Asked (line ∷ []) ws → longer ≡ bytes ++ spread ws → SoFar lines n bytes → SoFar lines (n + 1) longer
so_far_more lines n line bytes longer ws l here a e h =
    record {
      words = h.words ++ ws;
      asked = rw (take_more lines n line l, ← here) (asked_append (take n lines) (line ∷ []) h.words ws h.asked a);
      written = e ∙ ap (λ bs. bs ++ spread ws) h.written ∙ sym (spread_append h.words ws);
    }

pub reached : (text : List ℕ) (n : ℕ) (line bytes : List ℕ) → n < length (lines_of text) → line ≡ get_or (lines_of text) n line → SoFar (lines_of text) n bytes → Reached text line (n + 1)
reached text n line bytes l here h =
    record {
      before = take n (lines_of text);
      after = drop (suc n) (lines_of text);
      cut = sym (take-append-drop n (lines_of text)) ∙ ap (λ ls. take n (lines_of text) ++ ls) (drop-cons (lines_of text) n line l ∙ ap (λ a. a ∷ drop (suc n) (lines_of text)) (sym here));
      counted = add-one n ∙ ap suc (sym (length-take-le n (lines_of text) (omega arith)));
      words = h.words;
      asked = h.asked;
    }

-- where it lacks something, no stream is made
pub refused : (text line : List ℕ) (n : ℕ) (asked : Result (Option ℕ) Expected) (f : Failure) → Reached text line n → Answered line asked → MatchResult asked (λ x. ⊥) (λ e. f ≡ Line n e) → Refused text f
refused text line n (Ok x) f r a e = absurd e
refused text line n (Err x) f r a e = rw e (line, r, a)

pub so_far_all : (text bytes : List ℕ) (n : ℕ) → n ≡ length (lines_of text) → SoFar (lines_of text) n bytes → Composed text bytes
so_far_all text bytes n e h =
    record { words = h.words; asked = subst (λ ls. Asked ls h.words) (take_all n (lines_of text) (omega arith)) h.asked; written = h.written }
