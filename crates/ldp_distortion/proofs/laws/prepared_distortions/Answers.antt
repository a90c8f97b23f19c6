use Rattle.ldp_distortion.proofs.Joints.{prepared_distortions}
use Rattle.ldp_distortion.proofs.laws.prepared_distortions.Goals as goal

pub returns : goal.returns
returns c = λ lists at cells. prepared_distortions lists cells at
