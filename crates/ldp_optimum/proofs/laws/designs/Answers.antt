use Rattle.ldp_optimum.proofs.Listed.{admitted_listed, listed_admitted}
use Rattle.ldp_optimum.proofs.Members.{contained, of_contained}
use Rattle.ldp_optimum.specs.Best.{all_designs}
use Rattle.ldp_optimum.proofs.laws.designs.Goals as goal

pub returns-clause-admitted : goal.returns-clause-admitted
returns-clause-admitted c =
    λ families d h. contained d (all_designs families) (admitted_listed families d h)

pub returns-clause-listed : goal.returns-clause-listed
returns-clause-listed c =
    λ families d h. listed_admitted families d (of_contained d (all_designs families) h)
