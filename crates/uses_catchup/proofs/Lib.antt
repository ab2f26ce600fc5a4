mod CatchingUp
