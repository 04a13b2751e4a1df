use Rattle.std.proofs.Common.{rules}
use Rattle.identify.specs.Place.{cap_at, most, on_at}
use Rattle.identify.proofs.place.on.Goals as goal

pub returns-in-Identifier : goal.returns-in-Identifier
returns-in-Identifier c = rw c.in-Identifier.is (c.after_identifier.ensures)

pub returns-in-Cable : goal.returns-in-Cable
unfolding on_at cap_at most
returns-in-Cable c = search rules

pub returns-in-Rate : goal.returns-in-Rate
unfolding cap_at most
returns-in-Rate c = search rules

pub returns-in-Hm : goal.returns-in-Hm
unfolding on_at cap_at most
returns-in-Hm c = search rules

pub returns-in-Active : goal.returns-in-Active
unfolding on_at
returns-in-Active c = search rules

pub returns-in-QsfpIdentifier : goal.returns-in-QsfpIdentifier
unfolding on_at cap_at most
returns-in-QsfpIdentifier c = search rules

pub returns-in-Qsfp1g : goal.returns-in-Qsfp1g
unfolding on_at cap_at most
returns-in-Qsfp1g c = search rules

pub returns-in-QsfpConnector : goal.returns-in-QsfpConnector
unfolding cap_at most
returns-in-QsfpConnector c = search rules

pub returns-in-QsfpLength : goal.returns-in-QsfpLength
unfolding cap_at most
returns-in-QsfpLength c = search rules

pub returns-in-QsfpTechnology : goal.returns-in-QsfpTechnology
returns-in-QsfpTechnology c = rw c.in-QsfpTechnology.is (record { yields = c.after_technology.ensures.yields; limits = λ port h. c.after_technology.ensures.limits port _ })
