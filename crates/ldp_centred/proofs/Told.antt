-- An operation on items is the written operation over the lists that they mean.
use Rattle.std.proofs.Common.{◌≡◌, Option, Some, option_map, sym, ap, ◌∙◌}
use Rattle.ldp_num.specs.Slopes.{Item}
use Rattle.ldp_num.specs.Written.{slope_in, slope_out, of_one, of_two}
use Rattle.ldp_num.proofs.Listed.{slope_back}

pub two-told : (f : Item → Item → Option Item) (a b : Item) (r : Option Item) → r ≡ f a b
    → option_map slope_out r ≡ of_two slope_in slope_out f (slope_out a) (slope_out b)
two-told f a b r e = rw (slope_back a, slope_back b, e)

pub one-told : (f : Item → Option Item) (a : Item) (r : Option Item) → r ≡ f a
    → option_map slope_out r ≡ of_one slope_in slope_out f (slope_out a)
one-told f a r e = rw (slope_back a, e)

some-same : (a b : Item) → Some a ≡ Some b → a ≡ b
some-same a b e = cc

-- no two items mean one list
pub out-same : (a b : Item) → slope_out a ≡ slope_out b → a ≡ b
out-same a b e = some-same a b (sym (slope_back a) ∙ ap slope_in e ∙ slope_back b)
