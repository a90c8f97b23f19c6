-- The entries of the forest: what is read is what is written, and what is written is read.
use Rattle.std.proofs.Common.{◌≡◌, ℕ, ◌≤◌, lit≤, true, List, [], ◌∷◌, decimal, codes}
use Rattle.std.proofs.Common.{IfSome, Option, Some, None, refl, sym, ap, subst, ◌∙◌, inl, inr}
use Rattle.std.proofs.Common.{arith}
use Rattle.std.specs.Prelude.{bytes_eq}
use Rattle.ldp_num.specs.Number.{limit}
use Rattle.ldp_spelling.specs.Pieces.{words, line_of}
use Rattle.ldp_spelling.proofs.Pieces.{line_is_words}
use Rattle.ldp_design.specs.declared.axis.AxisName.{AxisName}
use Rattle.ldp_design.specs.declared.axis.AxisName.TheVariants.{Lat, Lon, Azimuth, Scale}
use Rattle.ldp_design.specs.declared.node.Node.{Node}
use Rattle.ldp_design.specs.declared.node.Node.TheVariants.{Tree, Split, Leaf, Unusable}
use Rattle.ldp_design.specs.Forests.{is_node}
use Rattle.ldp_job.specs.Words.{◌>>=◌, last_in}
use Rattle.ldp_job.specs.Values.{most, IsEntry}
use Rattle.ldp_job.specs.Texts.{entry_words}
use Rattle.ldp_design.specs.Words.{axis_text, axis_named}
use Rattle.ldp_job.specs.Entries.{last_number_in, leaf_in, split_in, unusable_in, tree_in}
use Rattle.ldp_job.specs.Entries.{entry_in, may_stand, standing, is_node_line}
use Rattle.ldp_job.proofs.Taken.{IsRead, TakesNumber, bind_some, number_step, word_step, last_found}
use Rattle.ldp_job.proofs.Taken.{number_again, word_again, if_cases, if_is, same_word}
use Rattle.ldp_job.proofs.Taken.{inside}

axis_found : (w : List ℕ) (a : AxisName) → axis_named w ≡ Some a → w ≡ axis_text a
axis_found w a e =
    elim (if_cases (bytes_eq w (codes "lat")) _ _ a e) [
      | inl hit ↦ same_word w (codes "lat") hit.0 ∙ ap axis_text (inside Lat a hit.1)
      | inr miss ↦ elim (if_cases (bytes_eq w (codes "lon")) _ _ a miss.1) [
        | inl hit ↦ same_word w (codes "lon") hit.0 ∙ ap axis_text (inside Lon a hit.1)
        | inr miss ↦ elim (if_cases (bytes_eq w (codes "azimuth")) _ _ a miss.1) [
          | inl hit ↦ same_word w (codes "azimuth") hit.0 ∙ ap axis_text (inside Azimuth a hit.1)
          | inr miss ↦
              let hit = if_is (bytes_eq w (codes "k0")) Scale a miss.1 in
              same_word w (codes "k0") hit.0 ∙ ap axis_text hit.1
        ]
      ]
    ]

axis_again : (a : AxisName) → axis_named (axis_text a) ≡ Some a
axis_again Lat = refl
axis_again Lon = refl
axis_again Azimuth = refl
axis_again Scale = refl

-- the one number that is left
number_found : {B : Type 0} (low high : ℕ) (ws : List (List ℕ)) (f : ℕ → Option B) (y : B)
    → (last_number_in low high ws >>= f) ≡ Some y
    → (n : ℕ) × TakesNumber low high ws n [] × (f n ≡ Some y)
number_found low high ws f y e =
    let step = bind_some (last_number_in low high ws) f y e in
    let number = number_step low high ws (λ n. last_in n.0 n.1) step.0 step.1 in
    let end = last_found number.0.0 step.0 number.0.1 number.2 in (
      step.0,
      subst (λ n. TakesNumber low high ws n []) end.1 record {
        above = number.1.above;
        below = number.1.below;
        spelled = number.1.spelled
            ∙ ap (λ l. decimal number.0.0 ∷ l) end.0;
      },
      step.2,
    )

last_again : (low high n : ℕ) → high ≤ limit → low ≤ n → n ≤ high
    → last_number_in low high (decimal n ∷ []) ≡ Some n
last_again low high n small above below =
    number_again low high n [] (λ n. last_in n.0 n.1) n small above below refl

split_found : (w : List ℕ) (ws : List (List ℕ)) (n : Node) → w ≡ codes "s" → split_in ws ≡ Some n
    → IsRead entry_words IsEntry (w ∷ ws) n
split_found w ws n name e =
    let axis = word_step axis_named ws _ n e in
    let cut = number_found 0 most axis.0.1 _ n axis.4 in
    subst (λ x. IsRead entry_words IsEntry (w ∷ ws) x) (inside (Split axis.0.0 cut.0) n cut.2)
    record {
      valid = cut.1.below;
      same = ap (λ x. x ∷ ws) name
          ∙ ap (λ l. codes "s" ∷ l)
          (axis.2 ∙ (ap (λ x. x ∷ axis.0.1) (axis_found axis.1 axis.0.0 axis.3)
          ∙ ap (λ l. axis_text axis.0.0 ∷ l) cut.1.spelled));
    }

leaf_found : (w : List ℕ) (ws : List (List ℕ)) (n : Node) → w ≡ codes "c" → leaf_in ws ≡ Some n
    → IsRead entry_words IsEntry (w ∷ ws) n
leaf_found w ws n name e =
    let cell = number_found 0 most ws _ n e in
    subst (λ x. IsRead entry_words IsEntry (w ∷ ws) x) (inside (Leaf cell.0) n cell.2) record {
      valid = cell.1.below;
      same = ap (λ x. x ∷ ws) name ∙ ap (λ l. codes "c" ∷ l) cell.1.spelled;
    }

unusable_found : (w : List ℕ) (ws : List (List ℕ)) (n : Node) → w ≡ codes "u"
    → unusable_in ws ≡ Some n → IsRead entry_words IsEntry (w ∷ ws) n
unusable_found w ws n name e =
    let cell = number_found 0 most ws _ n e in
    subst (λ x. IsRead entry_words IsEntry (w ∷ ws) x) (inside (Unusable cell.0) n cell.2) record {
      valid = cell.1.below;
      same = ap (λ x. x ∷ ws) name ∙ ap (λ l. codes "u" ∷ l) cell.1.spelled;
    }

tree_found : (w : List ℕ) (ws : List (List ℕ)) (n : Node) → w ≡ codes "tree" → tree_in ws ≡ Some n
    → IsRead entry_words IsEntry (w ∷ ws) n
tree_found w ws n name e =
    let family = number_found 1 65535 ws _ n e in
    subst (λ x. IsRead entry_words IsEntry (w ∷ ws) x) (inside (Tree family.0) n family.2) record {
      valid = (family.1.above, family.1.below);
      same = ap (λ x. x ∷ ws) name
          ∙ ap (λ l. codes "tree" ∷ l) family.1.spelled;
    }

pub entry_found : (ws : List (List ℕ)) (n : Node) → entry_in ws ≡ Some n
    → IsRead entry_words IsEntry ws n
unfolding entry_in
entry_found [] n e = absurd cc
entry_found (w ∷ ws) n e =
    elim (if_cases (bytes_eq w (codes "c")) _ _ n e) [
      | inl hit ↦ leaf_found w ws n (same_word w (codes "c") hit.0) hit.1
      | inr miss ↦ elim (if_cases (bytes_eq w (codes "s")) _ _ n miss.1) [
        | inl hit ↦ split_found w ws n (same_word w (codes "s") hit.0) hit.1
        | inr miss ↦ elim (if_cases (bytes_eq w (codes "u")) _ _ n miss.1) [
          | inl hit ↦ unusable_found w ws n (same_word w (codes "u") hit.0) hit.1
          | inr miss ↦ elim (if_cases (bytes_eq w (codes "tree")) _ _ n miss.1) [
            | inl hit ↦ tree_found w ws n (same_word w (codes "tree") hit.0) hit.1
            | inr miss ↦ absurd cc
          ]
        ]
      ]
    ]

pub entry_again : (n : Node) → IsEntry n → entry_in (entry_words n) ≡ Some n
unfolding entry_in
entry_again (Tree family) h =
    ap (λ o. o >>= (λ family. Some (Tree family))) (last_again 1 65535 family (lit≤ tt) h.0 h.1)
entry_again (Split axis cut) h =
    word_again axis_named (axis_text axis) (decimal cut ∷ []) axis _ (Split axis cut) (axis_again axis)
    (ap (λ o. o >>= (λ cut. Some (Split axis cut)))
    (last_again 0 most cut (lit≤ tt) (omega arith) h))
entry_again (Leaf cell) h =
    ap (λ o. o >>= (λ cell. Some (Leaf cell))) (last_again 0 most cell (lit≤ tt) (omega arith) h)
entry_again (Unusable cell) h =
    ap (λ o. o >>= (λ cell. Some (Unusable cell)))
    (last_again 0 most cell (lit≤ tt) (omega arith) h)

pub node_line_of : (n : Node) → is_node_line (line_of (entry_words n)) ≡ is_node n
node_line_of (Tree family) = refl
node_line_of (Split axis cut) = refl
node_line_of (Leaf cell) = refl
node_line_of (Unusable cell) = refl

stands : (pending : ℕ) (o : Option Node) (n : Node) → standing pending o ≡ Some n
    → (o ≡ Some n) × (may_stand pending n ≡ true)
unfolding standing
stands pending None n e = absurd cc
stands pending (Some m) n e = let hit = if_is (may_stand pending m) m n e in
    (ap (λ x. Some x) hit.1, ap (may_stand pending) (sym hit.1) ∙ hit.0)

pub standing_found : (pending : ℕ) (line : List ℕ) (n : Node)
    → standing pending (entry_in (words line)) ≡ Some n
    → IsEntry n × (line ≡ line_of (entry_words n)) × (may_stand pending n ≡ true)
standing_found pending line n e =
    let is = stands pending (entry_in (words line)) n e in
    let read = entry_found (words line) n is.0 in
    (read.valid, line_is_words line (entry_words n) read.same, is.1)

pub node_line : (pending : ℕ) (line : List ℕ) (n : Node)
    → standing pending (entry_in (words line)) ≡ Some n → is_node n ≡ true
    → is_node_line line ≡ true
node_line pending line n e is = let found = standing_found pending line n e in
    ap is_node_line found.1 ∙ (node_line_of n ∙ is)

pub node_if : (pending : ℕ) (line : List ℕ) (r : Option Node)
    → r ≡ standing pending (entry_in (words line))
    → IfSome r (λ n. (may_stand pending n ≡ true) × (is_node n ≡ true → is_node_line line ≡ true))
node_if pending line None e = tt
node_if pending line (Some n) e =
    ((standing_found pending line n (sym e)).2, node_line pending line n (sym e))
