use Rattle.programs.proofs.ProgramLaws.{ready, asked-runs}
use Rattle.programs.proofs.emitters.emit.Goals as goal

pub bounded-requires : goal.bounded-requires
bounded-requires c = let r = ready c.args.a.now c.args.b.now c.args.c.now c.args.e.now c.in-Bounded.is c.requires in (r.0, r.1)

pub entails-requires : goal.entails-requires
entails-requires c = let r = ready c.args.a.now c.args.b.now c.args.c.now c.args.e.now c.in-Entails.is c.requires in (r.0, r.1, r.2)

pub endpoint-requires : goal.endpoint-requires
endpoint-requires c = let r = ready c.args.a.now c.args.b.now c.args.c.now c.args.e.now c.in-Endpoint.is c.requires in (r.0, r.1, r.2, r.3)

pub boundary-requires : goal.boundary-requires
boundary-requires c = let r = ready c.args.a.now c.args.b.now c.args.c.now c.args.e.now c.in-Boundary.is c.requires in (r.0, r.1)

pub forall-requires : goal.forall-requires
forall-requires c = let r = ready c.args.a.now c.args.b.now c.args.c.now c.args.e.now c.in-Forall.is c.requires in (r.0, r.1, r.2)

pub transform-requires : goal.transform-requires
transform-requires c = let r = ready c.args.a.now c.args.b.now c.args.c.now c.args.e.now c.in-Transform.is c.requires in (r.0, r.1, r.2)

pub returns-in-Bounded : goal.returns-in-Bounded
returns-in-Bounded c = asked-runs c.args.a.now c.args.b.now c.in-Bounded.is c.bounded.ensures

pub returns-in-Entails : goal.returns-in-Entails
returns-in-Entails c = asked-runs c.args.a.now c.args.b.now c.in-Entails.is c.entails.ensures

pub returns-in-Endpoint : goal.returns-in-Endpoint
returns-in-Endpoint c = asked-runs c.args.a.now c.args.b.now c.in-Endpoint.is c.endpoint.ensures

pub returns-in-Boundary : goal.returns-in-Boundary
returns-in-Boundary c = asked-runs c.args.a.now c.args.b.now c.in-Boundary.is c.boundary.ensures

pub returns-in-Forall : goal.returns-in-Forall
returns-in-Forall c = asked-runs c.args.a.now c.args.b.now c.in-Forall.is c.forall.ensures

pub returns-in-Transform : goal.returns-in-Transform
returns-in-Transform c = asked-runs c.args.a.now c.args.b.now c.in-Transform.is c.transform.ensures
