mod Contents
mod Heaps
