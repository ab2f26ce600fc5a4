-- What sources and sinks have inside.
use Rattle.std.specs.Prelude.{ℕ, Bool, List}
use Rattle.rep_streams.specs.declared.source.ReaderSource.{ReaderSource}
use Rattle.rep_streams.specs.declared.sink.WriterSink.{WriterSink}
use Rattle.rep_streams.specs.declared.memory.MemorySource.{MemorySource}

-- the reader of a source
abbrev pub reader_of : {R : Type 0} → ReaderSource R → R
reader_of s = s.reader

-- whether it has failed
abbrev pub has_failed_to_read : {R : Type 0} → ReaderSource R → Bool
has_failed_to_read s = s.failed

-- the writer of a sink
abbrev pub writer_of : {W : Type 0} → WriterSink W → W
writer_of s = s.writer

-- whether it has failed
abbrev pub has_failed_to_write : {W : Type 0} → WriterSink W → Bool
has_failed_to_write s = s.failed

-- the bytes that a source in memory still has
abbrev pub bytes_left : MemorySource → List ℕ
bytes_left s = s.bytes.now
