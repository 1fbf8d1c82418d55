use Rattle.std.proofs.Common.{arith}
use Rattle.schedule.proofs.scan.ScanPart.length.Goals as goal
use Rattle.schedule.proofs.Scans.{length-scan}

pub returns : goal.returns
returns c = omega (arith, length-scan c.args.self.merge c.args.self.member.ranks c.args.self.member.rank c.args.self.member.within)
