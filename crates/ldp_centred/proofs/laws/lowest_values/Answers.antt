use Rattle.ldp_centred.proofs.Least.{lowest-below, lowest-sharper, lowest-exact, lowest-natural}
use Rattle.ldp_centred.proofs.laws.lowest_values.Goals as goal

pub returns-clause-below : goal.returns-clause-below
returns-clause-below c = lowest-below

pub returns-clause-sharper : goal.returns-clause-sharper
returns-clause-sharper c = lowest-sharper

pub returns-clause-exact : goal.returns-clause-exact
returns-clause-exact c = lowest-exact

pub returns-clause-natural : goal.returns-clause-natural
returns-clause-natural c = lowest-natural
