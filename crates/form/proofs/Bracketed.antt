-- A bracket as a walk finds it: what opens it, its children, what stands behind the last of them, what closes it. Assumes nothing.
use mathlib.Core.Path.{◌≡◌, refl, sym, ap, ◌∙◌}
use mathlib.Core.List.{List, [], ◌++◌, append-nil, append_assoc}
use Prim.Native.Nat.{ℕ, ◌≤◌}
use native.Mathlib.Omega.{arith}
use Rattle.rules.specs.Class.{codes}
use Rattle.lexicon.specs.Token.{head_word}
use Rattle.grammar.specs.Tokens
use Rattle.grammar.specs.Tokens.{Span, text, round, curly, mark}
use Rattle.grammar.specs.Tree
use Rattle.grammar.specs.Tree.{Joiner, Collection}
use Rattle.grammar.specs.Yield.{collection_head}
use Rattle.grammar.specs.Nodes
use Rattle.grammar.specs.Nodes.{NodeKind, Role, kind_number_of, joiner_left, joiner_right, collection_kind}
use Rattle.form.specs.Spell.{Spelt, put, sign, joiner}
use Rattle.grammar.proofs.Branches.{Branch, branch, Branches, none, more}
use Rattle.form.proofs.Walk.{opening, closing, tail, Listed, no_more, bracket}
use Rattle.form.proofs.Puts.{Puts, puts_none, puts_one, puts_both, puts_as}
use Rattle.form.proofs.Ends.{Said}
use Rattle.form.proofs.Members.{Child, Members, all_members, joined, whole}

-- a kind that never has anything behind its last child
abbrev pub Untailed : NodeKind → Type 0
Untailed k = (cs : Branches) → tail k 0 cs ≡ []

-- a counted collection is a bracket, with nothing behind the last child
counted_number : (h : Collection) → kind_number_of Nodes.a_pair ≤ kind_number_of (collection_kind h)
counted_number Tree.array = omega arith
counted_number Tree.set = omega arith
counted_number Tree.bag = omega arith

pub counted_tail : (h : Collection) → Untailed (collection_kind h)
counted_tail Tree.array cs = refl
counted_tail Tree.set cs = refl
counted_tail Tree.bag cs = refl

module _ (bytes : List ℕ) where
  -- what stands in a bracket of a kind, with what it has behind the last child
  pub record Inside (k : NodeKind) (d : ℕ) (cs : Branches) (f : List Spelt → List Spelt) : Type 0 where
    are : List ℕ
    listed : Listed bytes d 0 cs are
    puts : Puts f (are ++ tail k d cs)

  pub inside : {k : NodeKind} {d : ℕ} {cs : Branches} {f : List Spelt → List Spelt} {ms : List ℕ} → Listed bytes d 0 cs ms →
      Puts f (ms ++ tail k d cs) → Inside k d cs f
  inside {ms = ms} l p = record { are = ms; listed = l; puts = p }

  pub inside_plain : {k : NodeKind} {d : ℕ} {cs : Branches} {f : List Spelt → List Spelt} {ms : List ℕ} → tail k d cs ≡ [] →
      Listed bytes d 0 cs ms → Puts f ms → Inside k d cs f
  inside_plain {ms = ms} e l p = inside l (puts_as (sym (append-nil ms) ∙ ap (λ (t : List ℕ). ms ++ t) (sym e)) p)

  pub in_bracket : {k : NodeKind} {s : Span} {r : Role} {d : ℕ} {cs : Branches} {f g h : List Spelt → List Spelt} → kind_number_of Nodes.a_pair ≤ kind_number_of k →
      Puts f (opening k) → Inside k d cs g → Puts h (closing k) → Said bytes (branch k s r d cs) (λ ws. f (g (h ws)))
  in_bracket {k} {d = d} {cs = cs} n o x c =
      record {
        are = opening k ++ x.are ++ tail k d cs ++ closing k;
        walked = bracket n x.listed;
        puts = puts_both (puts_as (sym (append_assoc (opening k) x.are (tail k d cs))) (puts_both o x.puts)) c;
      }

  -- ---- Pairs and counted collections

  pub a_pair_lem : (j : Joiner) {s : Span} {role : Role} {a b : Branch} {f g : List Spelt → List Spelt} →
      Child bytes (joiner_left j) a f → Child bytes (joiner_right j) b g →
      Said bytes (branch Nodes.a_pair s role 0 (more a (more b none))) (λ ws. put round (codes "(") (joiner j f g (sign Tokens.round_close ws)))
  a_pair_lem j x y =
      let m = whole bytes (joined bytes j x y) in
      in_bracket (omega arith) (puts_one round (codes "(")) (inside_plain refl (all_members bytes m) m.puts)
      (puts_one (mark Tokens.round_close) (codes ")"))

  abbrev open_counted : Collection → List Spelt → List Spelt
  open_counted h ws =
      put round (codes "(")
      (put (text (Tokens.head_word (collection_head h))) (codes (head_word (collection_head h))) (sign Tokens.colon (put curly (codes "{") ws)))

  counted_opening : (h : Collection) → Puts (λ ws. open_counted h ws) (opening (collection_kind h))
  counted_opening Tree.array = record { bytes_are = λ ws. refl }
  counted_opening Tree.set = record { bytes_are = λ ws. refl }
  counted_opening Tree.bag = record { bytes_are = λ ws. refl }

  counted_closing : (h : Collection) → Puts (λ ws. sign Tokens.curly_close (sign Tokens.round_close ws)) (closing (collection_kind h))
  counted_closing Tree.array = record { bytes_are = λ ws. refl }
  counted_closing Tree.set = record { bytes_are = λ ws. refl }
  counted_closing Tree.bag = record { bytes_are = λ ws. refl }

  pub a_counted : (h : Collection) {s : Span} {role : Role} {cs : Branches} {f : List Spelt → List Spelt} → Inside (collection_kind h) 0 cs f →
      Said bytes (branch (collection_kind h) s role 0 cs) (λ ws. open_counted h (f (sign Tokens.curly_close (sign Tokens.round_close ws))))
  a_counted h x = in_bracket (counted_number h) (counted_opening h) x (counted_closing h)

  -- ---- the members of a Lot or a counted collection

  pub no_members : {k : NodeKind} → Untailed k → Inside k 0 none (λ ws. ws)
  no_members t = inside_plain (t none) no_more puts_none

  pub all_inside : {k : NodeKind} {cs : Branches} {f : List Spelt → List Spelt} → Untailed k → Members bytes cs f → Inside k 0 cs f
  all_inside {cs = cs} t m = inside_plain (t cs) (all_members bytes m) m.puts
