-- Places noted while rules are checked: after i of them, each of their entries has where its rule begins.
use mathlib.Core.Path.{◌≡◌, sym, ap, ◌∙◌}
use mathlib.Core.Logic.{⊎_elim}
use mathlib.Core.List.{List, flat_map}
use Prim.Native.Nat.{ℕ, suc, ◌+◌, ◌≤◌, ◌<◌}
use native.Mathlib.Nat.{eq-or-lt_of_le}
use native.Mathlib.Numerals.{add-one}
use native.Mathlib.Omega.{arith}
use lib.ListN.{length, set, length-set}
use lib.Seq.{get_or-set_same, get_or-set_other}
use Rattle.std.specs.Prelude.{Result, Ok, Err}
use Rattle.model.specs.Sheet.{one, got, rule, rule_words, RuleInRange}
use Rattle.model.specs.Index.{begin, nth, sheet_in, rules_in, Passes}
use Rattle.model.proofs.PartLaws.{part_nth}
use Rattle.model.proofs.SheetCode.{rule-reads}
use Rattle.model.proofs.PassedLaws.{in_range, rules-there}
use Rattle.model.proofs.IndexLaws.{rule-next}
use Rattle.sheet_walk.specs.declared.Bad.{Bad}
use Rattle.sheet_walk.specs.declared.Walk.{Walk}
use Rattle.sheet_walk.specs.Walks.{GoesPast}
use Rattle.sheet_walk.proofs.WalkLaws.{read_by, refused, taken, Leads, leads_first, leads_more}
use Rattle.sheet_rules.specs.Places.{BeginsOf, RulesFrom, Begins}

-- one more place, which is that of rule i
begins_more : (s places : List ℕ) (i at : ℕ) → BeginsOf i s places → at ≡ begin (sheet_in s).states 6 (rules_in s) i
    → BeginsOf (i + 1) s (set places i at)
begins_more s places i at h e k m r =
    let there : k < length places = omega (arith, length-set places i at) in
    ⊎_elim (λ f. rw (f, get_or-set_same places i at 0 (omega arith)) e)
    (λ d. rw (get_or-set_other places i k at 0 (omega arith)) (h k d there))
    (eq-or-lt_of_le {n = k} {m = i} (omega arith))

-- ---- the rules of a sheet that passes

-- each is read from where it begins to where the next begins
rule-read : {s : List ℕ} (ok : Passes s) (k : ℕ) → k < length (rules_in s)
    → rule (sheet_in s).states (sheet_in s).tags s (begin (sheet_in s).states 6 (rules_in s) k)
    ≡ got (nth (rules_in s) k) (begin (sheet_in s).states 6 (rules_in s) (suc k))
rule-read {s} ok k l =
    let p = (sheet_in s).states in
    let g = (sheet_in s).tags in
    let there = part_nth (rule_words p) {In = RuleInRange p g} {s = s} (rules_in s) (one 0 0) k
    (record { end = length s; there = rules-there ok; ranges = (in_range ok).rules }) l in
    (rule-reads p g (in_range ok).few_states).backwards there.ranges there.there
    ∙ ap (got (nth (rules_in s) k)) (there.there.ends ∙ sym (rule-next ok k l))

-- a walk from x, at y, before rule i is read
pub record Noting (p g n : ℕ) (x y : Walk) (places : List ℕ) (i : ℕ) : Type 0 where
  pub leads : Leads (λ j. rule p g) n i x y
  pub here : RulesFrom p g n x.words.now x.at → y.at ≡ begin (sheet_in x.words.now).states 6 (rules_in x.words.now) i
  pub noted : RulesFrom p g n x.words.now x.at → BeginsOf i x.words.now places

pub noting_none : {p g n : ℕ} {x : Walk} {places : List ℕ} → Noting p g n x x places 0
unfolding flat_map
noting_none = record { leads = leads_first; here = λ h. h.begins; noted = λ h k l. absurd (omega arith) }

module _ {p g n i : ℕ} {x y : Walk} {places : List ℕ} (h : Noting p g n x y places i) where
  read : i < n → (f : RulesFrom p g n x.words.now x.at) → read_by (rule p g) y
      ≡ got (nth (rules_in x.words.now) i) (begin (sheet_in x.words.now).states 6 (rules_in x.words.now) (suc i))
  read l f = rw (h.leads.words, f.states, f.tags, h.here f) (rule-read f.sheet i (omega (arith, f.number)))

  pub noting_more : i < n → {u : Result (Unit {0}) Bad} {z : Walk} → GoesPast (rule p g) y u z → u ≡ Ok tt → {put : List ℕ}
      → put ≡ set places i y.at → Noting p g n x z put (i + 1)
  noting_more l k e ep =
      let (r, passed, _) = taken k e in
      record {
        leads = leads_more h.leads l k e;
        here = λ f. rw add-one (let j = read l f in cc);
        noted = λ f. rw ep (begins_more x.words.now places i y.at (h.noted f) (h.here f));
      }

  -- where a word is bad there is nothing to note, and after the last rule all is noted
  pub noting_stops : i < n → {u : Result (Unit {0}) Bad} {z : Walk} {b : Bad} {table : List ℕ} → GoesPast (rule p g) y u z → u ≡ Err b
      → Begins p g n x.words.now x.at table
  noting_stops l k e = record { noted = λ f. absurd (let j = read l f in let d = refused k e in cc) }

  pub noting_all : n ≤ i → Begins p g n x.words.now x.at places
  noting_all l = record { noted = λ f k m. h.noted f k (omega arith) }
