-- The children of a bracket as a walk finds them, member by member: the comma in front of a member is told by the role of the child in
-- front, which is none or the last of a member. Assumes nothing.
use mathlib.Core.Path.{◌≡◌, refl, sym, ap, subst, ◌∙◌}
use mathlib.Core.Bool.{Bool, false, cond}
use mathlib.Core.List.{List, [], ◌++◌, append_assoc}
use Prim.Native.Nat.{ℕ}
use native.Mathlib.Omega.{arith}
use lib.Dec.{eqb}
use Rattle.rules.specs.Class.{codes}
use Rattle.grammar.specs.Tokens
use Rattle.grammar.specs.Tokens.{mark}
use Rattle.grammar.specs.Tree
use Rattle.grammar.specs.Tree.{rightward, leftward, Joiner, Style}
use Rattle.grammar.specs.Nodes
use Rattle.grammar.specs.Nodes.{Role, role_number, alone_role_of, joiner_left, joiner_right}
use Rattle.form.specs.Spell
use Rattle.form.specs.Spell.{Spelt, sign, joiner}
use Rattle.grammar.proofs.Branches.{Branch, Branches, none, more}
use Rattle.form.proofs.Walk.{role_of, Listed, no_more, comma, lead, child, turned}
use Rattle.form.proofs.Puts.{Puts, puts_none, puts_one, puts_both}
use Rattle.form.proofs.Ends.{Said}

-- ---- roles

-- of the first child of a member: a comma stands in front, if it is not the first member
record Opens (r : Role) : Type 0 where
  led : (before : ℕ) → eqb before (role_number Nodes.name) ≡ false → lead 0 before r ≡ comma before
  straight : r ≡ Nodes.that_before → ⊥

-- of the last child of a member
record Closes (r : Role) : Type 0 where
  some : eqb (role_number r) 0 ≡ false
  no_name : eqb (role_number r) (role_number Nodes.name) ≡ false
  straight : r ≡ Nodes.that_before → ⊥

opens_this : Opens Nodes.this
opens_this = record { led = λ before e. refl; straight = λ e. omega (arith, ap role_number e) }

opens_name : Opens Nodes.name
opens_name = record { led = λ before e. refl; straight = λ e. omega (arith, ap role_number e) }

opens_value : Opens Nodes.value
opens_value = record { led = λ before e. ap (λ (b : Bool). cond b (codes ":") (comma before)) e; straight = λ e. omega (arith, ap role_number e) }

closes_this : Closes Nodes.this
closes_this = record { some = refl; no_name = refl; straight = λ e. omega (arith, ap role_number e) }

closes_that : Closes Nodes.that_after
closes_that = record { some = refl; no_name = refl; straight = λ e. omega (arith, ap role_number e) }

closes_value : Closes Nodes.value
closes_value = record { some = refl; no_name = refl; straight = λ e. omega (arith, ap role_number e) }

closes_count : Closes Nodes.count
closes_count = record { some = refl; no_name = refl; straight = λ e. omega (arith, ap role_number e) }

opens_alone : (s : Style) → Opens (alone_role_of s)
opens_alone Tree.opening = opens_value
opens_alone Tree.attribute = opens_value
opens_alone Tree.member = opens_this
opens_alone (Tree.copy u) = opens_value

closes_alone : (s : Style) → Closes (alone_role_of s)
closes_alone Tree.opening = closes_value
closes_alone Tree.attribute = closes_value
closes_alone Tree.member = closes_this
closes_alone (Tree.copy u) = closes_value

module _ (bytes : List ℕ) where
  -- a child with its role
  pub record Child (r : Role) (a : Branch) (f : List Spelt → List Spelt) : Type 0 where
    pub said : Said bytes a f
    pub role_is : role_of a ≡ r

  pub child_as : {d before : ℕ} {r : Role} {a : Branch} {cs : Branches} {f : List Spelt → List Spelt} {ms : List ℕ} (x : Child r a f) → (r ≡ Nodes.that_before → ⊥) →
      Listed bytes d (role_number r) cs ms → Listed bytes d before (more a cs) (lead d before r ++ (x.said.are ++ ms))
  child_as {d} {before} {r} {a} {cs} {ms = ms} x n l =
      subst (Listed bytes d before (more a cs)) (append_assoc (lead d before r) x.said.are ms)
      (subst (λ (y : Role). Listed bytes d before (more a cs) (lead d before y ++ x.said.are ++ ms)) x.role_is
      (child (λ e. n (sym x.role_is ∙ e)) x.said.walked (subst (λ (y : Role). Listed bytes d (role_number y) cs ms) (sym x.role_is) l)))

  -- ---- members

  -- what stands behind a member
  pub record Rest (cs : Branches) (f : List Spelt → List Spelt) : Type 0 where
    are : List ℕ
    listed : (r : Role) → eqb (role_number r) 0 ≡ false → eqb (role_number r) (role_number Nodes.name) ≡ false → Listed bytes 0 (role_number r) cs are
    puts : Puts f are

  -- members, one at least
  pub record Members (cs : Branches) (f : List Spelt → List Spelt) : Type 0 where
    pub are : List ℕ
    listed : (before : ℕ) → eqb before (role_number Nodes.name) ≡ false → Listed bytes 0 before cs (comma before ++ are)
    pub puts : Puts f are

  nothing_behind : Rest none (λ ws. ws)
  nothing_behind = record { are = []; listed = λ r e n. no_more; puts = puts_none }

  behind_comma : {cs : Branches} {f : List Spelt → List Spelt} → Members cs f → Rest cs (λ ws. Spell.comma (f ws))
  behind_comma {cs} x =
      record {
        are = codes "," ++ x.are;
        listed = λ r e n. subst (λ (b : Bool). Listed bytes 0 (role_number r) cs (cond b [] (codes ",") ++ x.are)) e (x.listed (role_number r) n);
        puts = puts_both (puts_one (mark Tokens.comma) (codes ",")) x.puts;
      }

  pub all_members : {cs : Branches} {f : List Spelt → List Spelt} (x : Members cs f) → Listed bytes 0 0 cs x.are
  all_members x = x.listed 0 refl

  module _ {cs : Branches} {h : List Spelt → List Spelt} (rest : Rest cs h) where
    -- a value by itself
    pub alone : (s : Style) {a : Branch} {f : List Spelt → List Spelt} → Child (alone_role_of s) a f → Members (more a cs) (λ ws. f (h ws))
    alone s {a} x =
        let o = opens_alone s in
        let c = closes_alone s in
        record {
          are = x.said.are ++ rest.are;
          listed = λ before e.
              subst (λ (l : List ℕ). Listed bytes 0 before (more a cs) (l ++ (x.said.are ++ rest.are))) (o.led before e)
              (child_as x c.straight (rest.listed (alone_role_of s) c.some c.no_name));
          puts = puts_both x.said.puts rest.puts;
        }

    -- two, with a colon between
    two : {q r : Role} {a b : Branch} {f g : List Spelt → List Spelt} → Opens q → Closes r → lead 0 (role_number q) r ≡ codes ":" →
        Child q a f → Child r b g → Members (more a (more b cs)) (λ ws. f (sign Tokens.colon (g (h ws))))
    two {q} {r} {a} {b} o c e x y =
        record {
          are = x.said.are ++ (codes ":" ++ (y.said.are ++ rest.are));
          listed = λ before n.
              subst (λ (l : List ℕ). Listed bytes 0 before (more a (more b cs)) (l ++ (x.said.are ++ (codes ":" ++ (y.said.are ++ rest.are)))))
              (o.led before n)
              (child_as x o.straight
              (subst (λ (l : List ℕ). Listed bytes 0 (role_number q) (more b cs) (l ++ (y.said.are ++ rest.are))) e
              (child_as y c.straight (rest.listed r c.some c.no_name))));
          puts = puts_both x.said.puts (puts_both (puts_one (mark Tokens.colon) (codes ":")) (puts_both y.said.puts rest.puts));
        }

    this_that : {a b : Branch} {f g : List Spelt → List Spelt} → Child Nodes.this a f → Child Nodes.that_after b g →
        Members (more a (more b cs)) (λ ws. f (sign Tokens.colon (g (h ws))))
    this_that x y = two opens_this closes_that refl x y

    pub name_value_lem : {a b : Branch} {f g : List Spelt → List Spelt} → Child Nodes.name a f → Child Nodes.value b g →
        Members (more a (more b cs)) (λ ws. f (sign Tokens.colon (g (h ws))))
    name_value_lem x y = two opens_name closes_value refl x y

    pub value_count : {a b : Branch} {f g : List Spelt → List Spelt} → Child Nodes.value a f → Child Nodes.count b g →
        Members (more a (more b cs)) (λ ws. f (sign Tokens.colon (g (h ws))))
    value_count x y = two opens_value closes_count refl x y

    -- `b<-a`
    that_this : {a b : Branch} {f g : List Spelt → List Spelt} → Child Nodes.that_before a f → Said bytes b g →
        Members (more a (more b cs)) (λ ws. g (sign Tokens.colon (f (h ws))))
    that_this {a} {b} x y =
        record {
          are = (y.are ++ codes ":" ++ x.said.are) ++ rest.are;
          listed = λ before n.
              subst (Listed bytes 0 before (more a (more b cs))) (append_assoc (comma before) (y.are ++ codes ":" ++ x.said.are) rest.are)
              (subst (λ (r : Role). Listed bytes 0 before (more a (more b cs)) (lead 0 before r ++ (y.are ++ codes ":" ++ x.said.are) ++ rest.are)) x.role_is
              (turned x.role_is x.said.walked y.walked
              (subst (λ (r : Role). Listed bytes 0 (role_number r) cs rest.are) (sym x.role_is) (rest.listed Nodes.that_before refl refl))));
          puts = puts_both (puts_both (puts_both y.puts (puts_one (mark Tokens.colon) (codes ":"))) x.said.puts) rest.puts;
        }

  -- ---- members in front of others

  -- what stands behind them given, they are members in front of it
  pub record Leads (grown : Branches → Branches) (f : List Spelt → List Spelt) : Type 0 where
    pub front : {cs : Branches} {g : List Spelt → List Spelt} → Rest cs g → Members (grown cs) (λ ws. f (g ws))

  pub joined : (j : Joiner) {a b : Branch} {f g : List Spelt → List Spelt} → Child (joiner_left j) a f → Child (joiner_right j) b g →
      Leads (λ cs. more a (more b cs)) (λ ws. joiner j f g ws)
  joined Tree.colon x y = record { front = λ r. this_that r x y }
  joined (Tree.arrow rightward) x y = record { front = λ r. this_that r x y }
  joined (Tree.arrow leftward) x y = record { front = λ r. that_this r x y.said }

  -- all of a bracket's children
  pub whole : {grown : Branches → Branches} {f : List Spelt → List Spelt} → Leads grown f → Members (grown none) f
  whole l = l.front (nothing_behind)

  -- a row, and an item behind it
  pub with_last : {grown : Branches → Branches} {grown₂ : Branches → Branches} {f g : List Spelt → List Spelt} → Leads grown f → Leads grown₂ g →
      Leads (λ cs. grown (grown₂ cs)) (λ ws. f (Spell.comma (g ws)))
  with_last x y = record { front = λ r. x.front (behind_comma (y.front r)) }
