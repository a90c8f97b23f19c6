-- Work over values that were read, in a command that takes files.
use Rattle.ldp_answer.specs.declared.fault.WorkFault.{WorkFault}
use Rattle.ldp_answer.specs.declared.fault.WorkFault.TheVariants as faults
use Rattle.ldp_cli.specs.declared.stop.Stop.{Stop}
use Rattle.ldp_cli.specs.declared.stop.Stop.TheVariants as stops

-- the command stops as its work does
abbrev pub stop_of : WorkFault → Stop
stop_of (faults.Refused refusal) = stops.Refused refusal
stop_of faults.Memory = stops.Memory
